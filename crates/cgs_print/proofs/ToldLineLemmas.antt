-- A printed list is read again, line by line from its end.
use Rattle.std.proofs.Common.{◌≡◌, ℕ, Bool, true, false, cond, List, [], ◌∷◌, ◌++◌, drop, codes, Result, Ok, Err, Option, Some, None, refl, ap, ◌∙◌}
use Rattle.std.proofs.Common.{inl, arith, append_assoc}
use Rattle.std.specs.List.{AllByRecursion}
use Rattle.cgs_field.specs.Prime.{IsModulus}
use Rattle.cgs_field.proofs.PrimeLemmas.{modulus_small}
use Rattle.cgs_poly.specs.Ring.{Ring}
use Rattle.cgs_poly.specs.Polynomial.{Term, IsPoly, ArePolys, IsCanonical, HasLowDegrees, greatest_degree}
use Rattle.cgs_poly.proofs.RingLemmas.{modulus_positive}
use Rattle.cgs_entry.specs.declared.entry.Entry.{Entry}
use Rattle.cgs_entry.specs.declared.entry.EntryKind.{EntryKind}
use Rattle.cgs_entry.specs.declared.entry.EntryKind.TheVariants.{Solved, Refused}
use Rattle.cgs_entry.specs.Bases.{basis_of}
use Rattle.cgs_list.specs.Results.{and_then}
use Rattle.cgs_problem.specs.declared.fault.TextKind.{TextKind}
use Rattle.cgs_problem.specs.Lexemes.{line_lexemes}
use Rattle.cgs_problem.specs.Lines.{lines_of}
use Rattle.cgs_problem.specs.Sums.{Reader, polynomial_said}
use Rattle.cgs_canonical.specs.Printing.{polynomial_text, polynomial_line, polynomial_lines}
use Rattle.cgs_print.specs.Telling.{Place, cause_of}
use Rattle.cgs_canonical.proofs.LexemeLemmas.{Passes, passes_append, is_plain, IsName, Says, line_says}
use Rattle.cgs_canonical.proofs.MonomialLemmas.{IsReader, IsAllowed}
use Rattle.cgs_canonical.proofs.PolynomialLemmas.{sum_said, polynomial_says, polynomial_reads, IsReadable}
use Rattle.cgs_canonical.proofs.LineLemmas.{first_line, passing}
use Rattle.cgs_canonical.proofs.BodyLemmas.{short}
use Rattle.cgs_print.proofs.ToldPathLemmas.{begins, path_told, cause_told}

-- a reader of any polynomial of a ring
abbrev pub reader_with : Ring → List (List ℕ) → Reader
reader_with ring names = record { ring = ring; names = names; barred = 0; most = greatest_degree }

-- a ring with a name for each place
pub record IsNamed (ring : Ring) (names : List (List ℕ)) : Type 0 where
  pub modulus : IsModulus ring.modulus
  pub words : AllByRecursion IsName names
  pub reader : IsReader (reader_with ring names)

-- what the lines from one on tell: of the entry that began before them, and the entries and places that begin among them
pub record Told : Type 0 where
  pub zero : List (List Term)
  pub nonzero : List (List Term)
  pub basis : List (List Term)
  pub tested : Bool
  pub entries : List Entry
  pub places : List (Option Place)

-- nothing of an entry that began before
abbrev pub fresh : List Entry → List (Option Place) → Told
fresh entries places = record { zero = []; nonzero = []; basis = []; tested = true; entries = entries; places = places }

-- the entry begins there
abbrev pub headed : Told → List ℕ → EntryKind → Told
headed told path kind =
    fresh (record { path = path; conditions = record { zero = told.zero; nonzero = told.nonzero }; kind = kind } ∷ told.entries) told.places

-- the place that an entry tells, if one was told
abbrev pub place_told : List Entry → Option Place
place_told [] = None
place_told (entry ∷ entries) = Some (record { path = entry.path; cause = cause_of entry.kind; basis = basis_of entry.kind })

or_none : Result (List Term) TextKind → List Term
or_none (Ok f) = f
or_none (Err e) = []

-- the polynomial that a text says
pub polynomial_told : Ring → List (List ℕ) → List ℕ → List Term
polynomial_told ring names text = or_none (and_then (line_lexemes text) (polynomial_said (reader_with ring names)))

abbrev pub with_zero : List Term → Told → Told
with_zero f told = record told { zero = f ∷ told.zero }

abbrev pub with_nonzero : List Term → Told → Told
with_nonzero f told = record told { nonzero = f ∷ told.nonzero }

abbrev pub with_basis : List Term → Told → Told
with_basis f told = record told { basis = f ∷ told.basis }

-- what a line tells before those that follow it
abbrev pub line_told : Ring → List (List ℕ) → List ℕ → Told → Told
line_told ring names line told =
    cond (begins (codes "zero ") line) (with_zero (polynomial_told ring names (drop 5 line)) told)
    (cond (begins (codes "nonzero ") line) (with_nonzero (polynomial_told ring names (drop 8 line)) told)
    (cond (begins (codes "basis ") line) (with_basis (polynomial_told ring names (drop 6 line)) told)
    (cond (begins (codes "untested") line) (record told { tested = false })
    (cond (begins (codes "segment ") line) (headed told (path_told (drop 8 line)) (Solved told.basis told.tested))
    (cond (begins (codes "refused ") line) (headed told (path_told (drop 8 line)) (Refused (cause_told (drop 8 line))))
    (cond (begins (codes "points ") line) told
    (cond (begins (codes "point") line) (fresh [] (place_told told.entries ∷ told.places)) told)))))))

lines_told : Ring → List (List ℕ) → List (List ℕ) → Told
lines_told ring names [] = fresh [] []
lines_told ring names (line ∷ lines) = line_told ring names line (lines_told ring names lines)

pub text_told : Ring → List (List ℕ) → List ℕ → Told
text_told ring names text = lines_told ring names (lines_of text)

pub nothing_told : (ring : Ring) (names : List (List ℕ)) → text_told ring names [] ≡ fresh [] []
unfolding text_told lines_told
nothing_told ring names = refl

pub line_reads : (ring : Ring) (names : List (List ℕ)) (line rest : List ℕ) → Passes is_plain line
    → text_told ring names (line ++ codes "\n" ++ rest) ≡ line_told ring names line (text_told ring names rest)
unfolding text_told lines_told
line_reads ring names line rest h =
    ap (λ t. lines_told ring names (lines_of t)) (append_assoc line (codes "\n") rest) ∙ ap (lines_told ring names) (first_line line rest h)

-- polynomials

allowed : (ring : Ring) (names : List (List ℕ)) (f : List Term) → IsCanonical ring f → HasLowDegrees f
    → AllByRecursion (λ (t : Term). IsAllowed (reader_with ring names) t.exponents) f
allowed ring names [] can low = tt
allowed ring names (t ∷ f) can low = (record { places = can.2; low = low.0; free = inl refl }, allowed ring names f can.4 low.1)

says : (ring : Ring) (names : List (List ℕ)) (f : List Term) → IsNamed ring names → IsPoly ring f → Says (polynomial_text ring names f) (sum_said ring names f)
says ring names f n h =
    polynomial_says ring names f n.words
    (short (reader_with ring names) f (modulus_small ring.modulus n.modulus) (omega arith) h.canonical (allowed ring names f h.canonical h.low))

-- a printed polynomial tells itself
pub polynomial_is_told : (ring : Ring) (names : List (List ℕ)) (f : List Term) → IsNamed ring names → IsPoly ring f
    → polynomial_told ring names (polynomial_text ring names f) ≡ f
unfolding polynomial_told or_none
polynomial_is_told ring names f n h =
    let reader : Reader = reader_with ring names in
    let readable : IsReadable reader f = record { canonical = h.canonical; allowed = allowed ring names f h.canonical h.low } in
    ap (λ r. or_none (and_then r (polynomial_said reader))) (line_says _ _ (says ring names f n h))
    ∙ ap or_none (polynomial_reads reader f (modulus_positive ring.modulus n.modulus) n.reader readable)

abbrev pub each : (List Term → Told → Told) → List (List Term) → Told → Told
each put [] told = told
each put (f ∷ fs) told = put f (each put fs told)

-- lines of one keyword, which put each polynomial before what is told
lines_tell : (ring : Ring) (names : List (List ℕ)) (word : List ℕ) (put : List Term → Told → Told) (fs : List (List Term)) (rest : List ℕ)
    → Passes is_plain (word ++ codes " ")
    → ((text : List ℕ) (told : Told) → line_told ring names (word ++ codes " " ++ text) told ≡ put (polynomial_told ring names text) told)
    → IsNamed ring names → ArePolys ring fs
    → text_told ring names (polynomial_lines word ring names fs ++ rest) ≡ each put fs (text_told ring names rest)
lines_tell ring names word put [] rest plain step n h = refl
lines_tell ring names word put (f ∷ fs) rest plain step n h =
    let text : List ℕ = polynomial_text ring names f in
    let more : List ℕ = polynomial_lines word ring names fs ++ rest in
    let told : Told = text_told ring names more in
    ap (text_told ring names) (append_assoc (polynomial_line word ring names f) (polynomial_lines word ring names fs) rest)
    ∙ line_reads ring names (word ++ codes " " ++ text) more (passes_append is_plain (word ++ codes " ") text plain (says ring names f n h.0).plain)
    ∙ step text told
    ∙ ap (λ g. put g told) (polynomial_is_told ring names f n h.0)
    ∙ ap (put f) (lines_tell ring names word put fs rest plain step n h.1)

each_zero : (fs : List (List Term)) (told : Told) → each with_zero fs told ≡ record told { zero = fs ++ told.zero }
each_zero [] told = refl
each_zero (f ∷ fs) told = ap (with_zero f) (each_zero fs told)

each_nonzero : (fs : List (List Term)) (told : Told) → each with_nonzero fs told ≡ record told { nonzero = fs ++ told.nonzero }
each_nonzero [] told = refl
each_nonzero (f ∷ fs) told = ap (with_nonzero f) (each_nonzero fs told)

each_basis : (fs : List (List Term)) (told : Told) → each with_basis fs told ≡ record told { basis = fs ++ told.basis }
each_basis [] told = refl
each_basis (f ∷ fs) told = ap (with_basis f) (each_basis fs told)

pub zero_tells : (ring : Ring) (names : List (List ℕ)) (fs : List (List Term)) (rest : List ℕ) → IsNamed ring names → ArePolys ring fs
    → text_told ring names (polynomial_lines (codes "zero") ring names fs ++ rest)
    ≡ (let told = text_told ring names rest in record told { zero = fs ++ told.zero })
zero_tells ring names fs rest n h =
    lines_tell ring names (codes "zero") with_zero fs rest (passing is_plain (codes "zero ") refl) (λ text told. refl) n h
    ∙ each_zero fs (text_told ring names rest)

pub nonzero_tells : (ring : Ring) (names : List (List ℕ)) (fs : List (List Term)) (rest : List ℕ) → IsNamed ring names → ArePolys ring fs
    → text_told ring names (polynomial_lines (codes "nonzero") ring names fs ++ rest)
    ≡ (let told = text_told ring names rest in record told { nonzero = fs ++ told.nonzero })
nonzero_tells ring names fs rest n h =
    lines_tell ring names (codes "nonzero") with_nonzero fs rest (passing is_plain (codes "nonzero ") refl) (λ text told. refl) n h
    ∙ each_nonzero fs (text_told ring names rest)

pub basis_tells : (ring : Ring) (names : List (List ℕ)) (fs : List (List Term)) (rest : List ℕ) → IsNamed ring names → ArePolys ring fs
    → text_told ring names (polynomial_lines (codes "basis") ring names fs ++ rest)
    ≡ (let told = text_told ring names rest in record told { basis = fs ++ told.basis })
basis_tells ring names fs rest n h =
    lines_tell ring names (codes "basis") with_basis fs rest (passing is_plain (codes "basis ") refl) (λ text told. refl) n h
    ∙ each_basis fs (text_told ring names rest)
