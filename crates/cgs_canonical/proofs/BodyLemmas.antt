-- The printed lines of the polynomials, the points and the end are read again.
use Rattle.std.proofs.Common.{◌≡◌, ℕ, ◌+◌, ◌<◌, ◌≤◌, eqb, Bool, true, false, cond, ◌||◌, List, [], ◌∷◌, ◌++◌, map, take, drop, length, codes, decimal, flat_map}
use Rattle.std.proofs.Common.{Result, Ok, Err, Option, Some, None, IfSome, refl, sym, ap, ◌∙◌, subst, arith, append_assoc, append-nil, bytes_eq, eq-eqb}
use Rattle.std.specs.List.{AllByRecursion, list_any}
use Rattle.std.proofs.Math.Seq.{drop-append_seam, take-append_seam}
use Rattle.std.proofs.Math.Nat.{mod-eq_of_lt}
use Rattle.std.proofs.lemmas.List.{length-append}
use Rattle.std.proofs.lemmas.List.Folds.{list_any-append}
use Rattle.std.proofs.lemmas.Slice.Eq.{bytes_eq-Decides}
use Rattle.cgs_list.proofs.ListLemmas.{all_append}
use Rattle.cgs_tokens.specs.Tokens.{is_word}
use Rattle.cgs_field.proofs.PrimeLemmas.{modulus_small, modulus_prime}
use Rattle.cgs_poly.specs.Polynomial.{Term, IsCanonical, greatest_degree}
use Rattle.cgs_list.specs.Results.{and_then}
use Rattle.cgs_point.specs.Points.{IsPoint}
use Rattle.cgs_problem.specs.declared.fault.TextKind.{TextKind}
use Rattle.cgs_problem.specs.declared.fault.TextKind.TheVariants as fault
use Rattle.cgs_problem.specs.Lexemes.{Lexeme, name, number}
use Rattle.cgs_problem.specs.Lines.{lines_of}
use Rattle.cgs_problem.specs.Sums.{Reader, polynomial_said}
use Rattle.cgs_problem.specs.Drafts.{ended, PartialProblem, ring_of, names_of, numbers_said, line_said}
use Rattle.cgs_problem.specs.Reading.{read_from, problem_of}
use Rattle.cgs_problem.specs.Problems.{greatest_thesis_degree}
use Rattle.cgs_canonical.specs.Printing.{polynomial_text, polynomial_line, polynomial_lines, thesis_line, point_line, body_text}
use Rattle.cgs_canonical.proofs.LexemeLemmas.{Says, Stops, IsName, says_nothing, says_append, space_says, decimal_says}
use Rattle.cgs_canonical.proofs.MonomialLemmas.{AreNew, IsReader, IsAllowed}
use Rattle.cgs_canonical.proofs.PolynomialLemmas.{sum_said, polynomial_says, polynomial_reads, IsReadable, IsShort}
use Rattle.cgs_canonical.proofs.LineLemmas.{GoesOn, keyword_reads, keyword}
use Rattle.cgs_canonical.proofs.HeaderLemmas.{HasHeader, having, regroup}

-- what a polynomial is read with: how many places are barred, and the greatest degree of a product
abbrev pub reader_of : PartialProblem → ℕ → ℕ → Reader
reader_of draft barred most = record { ring = ring_of draft; names = names_of draft; barred = barred; most = most }

-- what the lines after the header may have said
pub record IsBody (draft : PartialProblem) : Type 0 where
  pub zero : AllByRecursion (IsReadable (reader_of draft (length draft.variables) greatest_degree)) draft.zero
  pub nonzero : AllByRecursion (IsReadable (reader_of draft (length draft.variables) greatest_degree)) draft.nonzero
  pub polys : AllByRecursion (IsReadable (reader_of draft 0 greatest_degree)) draft.polys
  pub thesis : IfSome draft.thesis (IsReadable (reader_of draft 0 greatest_thesis_degree))
  pub points : AllByRecursion (IsPoint (ring_of draft)) draft.points

-- the names of a draft

other_word : (v w : List ℕ) → bytes_eq v w ≡ false → bytes_eq w v ≡ false
other_word v w h = step (bytes_eq w v) refl
  where
    step : (b : Bool) → bytes_eq w v ≡ b → b ≡ false
    step false e = refl
    step true e =
        let q : w ≡ v = (bytes_eq-Decides w v).0 e in
        let r : bytes_eq v w ≡ true = (bytes_eq-Decides v w).1 (sym q) in
        absurd (cc)

none_same : (w : List ℕ) (names : List (List ℕ)) → AllByRecursion (λ v. bytes_eq v w ≡ false) names → list_any (bytes_eq w) names ≡ false
none_same w [] h = refl
none_same w (v ∷ names) h = rw (other_word v w h.0) (none_same w names h.1)

first_apart : (w : List ℕ) (names others : List (List ℕ)) → AllByRecursion (λ v. list_any (bytes_eq v) (w ∷ others) ≡ false) names
    → AllByRecursion (λ v. bytes_eq v w ≡ false) names × AllByRecursion (λ v. list_any (bytes_eq v) others ≡ false) names
first_apart w [] others h = (tt, tt)
first_apart w (v ∷ names) others h =
    let rest = first_apart w names others h.1 in
    let one = both (bytes_eq v w) (list_any (bytes_eq v) others) h.0 in
    ((one.0, rest.0), (one.1, rest.1))
  where
    both : (a b : Bool) → (a || b) ≡ false → (a ≡ false) × (b ≡ false)
    both false b e = (refl, e)
    both true b e = absurd (cc)

-- lists of new names of which the first has none of the second
pub new_beside : (front before names : List (List ℕ)) → AreNew before names → AllByRecursion (λ v. list_any (bytes_eq v) names ≡ false) front
    → AreNew (front ++ before) names
new_beside front before [] new apart = tt
new_beside front before (w ∷ names) new apart =
    let split = first_apart w front names apart in
    let free : list_any (bytes_eq w) (front ++ before) ≡ false = rw (list_any-append (bytes_eq w) front before, none_same w front split.0) new.0 in
    (free, subst (λ l. AreNew l names) (sym (append_assoc front before (w ∷ []))) (new_beside front (before ++ w ∷ []) names new.1 split.1))

pub reader_is : (d : PartialProblem) (barred most : ℕ) → HasHeader d → barred ≤ length d.variables → most ≤ greatest_degree → IsReader (reader_of d barred most)
reader_is d barred most h le low =
    let heads : take (length d.variables) (names_of d) ≡ d.variables = take-append_seam d.variables d.parameters in
    let tails : drop (length d.variables) (names_of d) ≡ d.parameters = drop-append_seam d.variables d.parameters in
    let new : AreNew d.variables d.parameters =
    subst (λ l. AreNew l d.parameters) (append-nil d.variables) (new_beside d.variables [] d.parameters h.parameter_names.new h.variable_names.apart) in
    record {
      named = length-append d.variables d.parameters;
      heads = subst (λ l. AreNew [] l) (sym heads) h.variable_names.new;
      tails = subst (λ l. AreNew l (drop (length d.variables) (names_of d))) (sym heads) (subst (λ l. AreNew d.variables l) (sym tails) new);
      barred = le;
      low = low;
    }

pub all_named : (d : PartialProblem) → HasHeader d → AllByRecursion IsName (names_of d)
all_named d h = all_append IsName d.variables d.parameters h.variable_names.named h.parameter_names.named

pub short : (reader : Reader) (f : List Term) → reader.ring.modulus < 65536 → reader.most ≤ greatest_degree → IsCanonical reader.ring f
    → AllByRecursion (λ (t : Term). IsAllowed reader t.exponents) f → IsShort f
short reader [] small low c m = tt
short reader (t ∷ f) small low c m = ((omega (arith, c.1), omega (arith, m.0.low)), short reader f small low c.4 m.1)

pub positive : (d : PartialProblem) → HasHeader d → 0 < d.modulus
positive d h = omega (arith, (modulus_prime d.modulus h.modulus).above_one)

-- The line of a keyword and a polynomial makes of the draft what its reader makes of it.
polynomial_line_reads : (n : ℕ) (d draft : PartialProblem) (next : List Term → PartialProblem) (word : List ℕ) (barred most : ℕ) (f : List Term) (rest : List ℕ)
    → HasHeader d → barred ≤ length d.variables → most ≤ greatest_degree → IsReadable (reader_of d barred most) f → IsName word → GoesOn draft.stage
    → line_said draft.stage draft (name word ∷ sum_said (ring_of d) (names_of d) f)
    ≡ and_then (polynomial_said (reader_of d barred most) (sum_said (ring_of d) (names_of d) f)) (λ g. Ok (next g))
    → read_from n draft (lines_of (polynomial_line word (ring_of d) (names_of d) f ++ rest)) ≡ read_from (n + 1) (next f) (lines_of rest)
polynomial_line_reads n d draft next word barred most f rest h le low r w on said =
    let text : List ℕ = polynomial_text (ring_of d) (names_of d) f in
    let lexemes : List Lexeme = sum_said (ring_of d) (names_of d) f in
    let says : Says text lexemes = polynomial_says (ring_of d) (names_of d) f (all_named d h)
    (short (reader_of d barred most) f (modulus_small d.modulus h.modulus) low r.canonical r.allowed) in
    let reads : polynomial_said (reader_of d barred most) lexemes ≡ Ok f =
    polynomial_reads (reader_of d barred most) f (positive d h) (reader_is d barred most h le low) r in
    ap (λ l. read_from n draft (lines_of (l ++ codes "\n" ++ rest))) (append_assoc word (codes " ") text)
    ∙ keyword_reads n draft (next f) word (32 ∷ text) rest lexemes w refl (space_says text lexemes says) on
    (said ∙ ap (λ g. and_then {B = PartialProblem} g (λ g. Ok (next g))) reads)

-- lines of one kind

lines_read : {X : Type 0} (text : X → List ℕ) (Good : X → Type 0) (at : List X → PartialProblem)
    → ((n : ℕ) (before : List X) (x : X) (rest : List ℕ) → Good x
    → read_from n (at before) (lines_of (text x ++ rest)) ≡ read_from (n + 1) (at (before ++ x ∷ [])) (lines_of rest))
    → (n : ℕ) (before xs : List X) (rest : List ℕ) → AllByRecursion Good xs
    → read_from n (at before) (lines_of (flat_map text xs ++ rest)) ≡ read_from (n + length xs) (at (before ++ xs)) (lines_of rest)
lines_read text Good at one n before [] rest h =
    let e : n ≡ n + 0 = omega arith in
    ap (λ k. read_from k (at before) (lines_of rest)) e ∙ ap (λ l. read_from (n + 0) (at l) (lines_of rest)) (sym (append-nil before))
lines_read {X} text Good at one n before (x ∷ xs) rest h =
    let e : (n + 1) + length xs ≡ n + length (x ∷ xs) = omega arith in
    ap (λ t. read_from n (at before) (lines_of t)) (append_assoc (text x) (flat_map text xs) rest)
    ∙ one n before x (flat_map text xs ++ rest) h.0
    ∙ lines_read text Good at one (n + 1) (before ++ x ∷ []) xs rest h.1
    ∙ ap (λ k. read_from k (at ((before ++ x ∷ []) ++ xs)) (lines_of rest)) e
    ∙ ap (λ l. read_from (n + length (x ∷ xs)) (at l) (lines_of rest)) (append_assoc before (x ∷ []) xs)

zero_lines : (n : ℕ) (d : PartialProblem) (rest : List ℕ) → HasHeader d → IsBody d
    → read_from n (having d [] [] [] None []) (lines_of (polynomial_lines (codes "zero") (ring_of d) (names_of d) d.zero ++ rest))
    ≡ read_from (n + length d.zero) (having d d.zero [] [] None []) (lines_of rest)
zero_lines n d rest h b =
    lines_read (polynomial_line (codes "zero") (ring_of d) (names_of d)) (IsReadable (reader_of d (length d.variables) greatest_degree))
    (λ fs. having d fs [] [] None [])
    (λ n before f rest r. polynomial_line_reads n d (having d before [] [] None []) (λ f. having d (before ++ f ∷ []) [] [] None []) (codes "zero")
    (length d.variables) greatest_degree f rest h (omega arith) (omega arith) r (keyword (codes "zero") refl) tt refl)
    n [] d.zero rest b.zero

nonzero_lines : (n : ℕ) (d : PartialProblem) (rest : List ℕ) → HasHeader d → IsBody d
    → read_from n (having d d.zero [] [] None []) (lines_of (polynomial_lines (codes "nonzero") (ring_of d) (names_of d) d.nonzero ++ rest))
    ≡ read_from (n + length d.nonzero) (having d d.zero d.nonzero [] None []) (lines_of rest)
nonzero_lines n d rest h b =
    lines_read (polynomial_line (codes "nonzero") (ring_of d) (names_of d)) (IsReadable (reader_of d (length d.variables) greatest_degree))
    (λ fs. having d d.zero fs [] None [])
    (λ n before f rest r. polynomial_line_reads n d (having d d.zero before [] None []) (λ f. having d d.zero (before ++ f ∷ []) [] None []) (codes "nonzero")
    (length d.variables) greatest_degree f rest h (omega arith) (omega arith) r (keyword (codes "nonzero") refl) tt refl)
    n [] d.nonzero rest b.nonzero

poly_lines : (n : ℕ) (d : PartialProblem) (rest : List ℕ) → HasHeader d → IsBody d
    → read_from n (having d d.zero d.nonzero [] None []) (lines_of (polynomial_lines (codes "poly") (ring_of d) (names_of d) d.polys ++ rest))
    ≡ read_from (n + length d.polys) (having d d.zero d.nonzero d.polys None []) (lines_of rest)
poly_lines n d rest h b =
    lines_read (polynomial_line (codes "poly") (ring_of d) (names_of d)) (IsReadable (reader_of d 0 greatest_degree))
    (λ fs. having d d.zero d.nonzero fs None [])
    (λ n before f rest r. polynomial_line_reads n d (having d d.zero d.nonzero before None []) (λ f. having d d.zero d.nonzero (before ++ f ∷ []) None [])
    (codes "poly") 0 greatest_degree f rest h (omega arith) (omega arith) r (keyword (codes "poly") refl) tt refl)
    n [] d.polys rest b.polys

thesis_read : (n : ℕ) (d : PartialProblem) (thesis : Option (List Term)) (rest : List ℕ) → HasHeader d
    → IfSome thesis (IsReadable (reader_of d 0 greatest_thesis_degree))
    → (m : ℕ) × (read_from n (having d d.zero d.nonzero d.polys None []) (lines_of (thesis_line (ring_of d) (names_of d) thesis ++ rest))
    ≡ read_from m (having d d.zero d.nonzero d.polys thesis []) (lines_of rest))
thesis_read n d None rest h r = (n, refl)
thesis_read n d (Some f) rest h r = (
  n + 1,
  polynomial_line_reads n d (having d d.zero d.nonzero d.polys None []) (λ f. having d d.zero d.nonzero d.polys (Some f) [])
      (codes "thesis") 0 greatest_thesis_degree f rest h
      (omega arith) (omega arith) r (keyword (codes "thesis") refl) tt refl,
)

-- the points

numbers_stop : (point : List ℕ) → Stops is_word (flat_map (λ n. codes " " ++ decimal n) point)
numbers_stop [] = tt
numbers_stop (n ∷ point) = refl

numbers_say : (point : List ℕ) → AllByRecursion (λ n. n < 65536) point → Says (flat_map (λ n. codes " " ++ decimal n) point) (map (λ n. number n) point)
numbers_say [] h = says_nothing
numbers_say (n ∷ point) h =
    space_says _ _ (says_append (decimal n) (flat_map (λ n. codes " " ++ decimal n) point) (number n ∷ []) (map (λ n. number n) point)
    (decimal_says n (let l = h.0 in omega arith)) (numbers_stop point) (numbers_say point h.1))

numbers_short : (p : ℕ) (point : List ℕ) → p < 65536 → AllByRecursion (λ n. n < p) point → AllByRecursion (λ n. n < 65536) point
numbers_short p [] small h = tt
numbers_short p (n ∷ point) small h = (let l = h.0 in omega arith, numbers_short p point small h.1)

numbers_read : (p : ℕ) (point : List ℕ) → AllByRecursion (λ n. n < p) point → numbers_said p (map (λ n. number n) point) ≡ Ok point
numbers_read p [] h = refl
numbers_read p (n ∷ point) h = rw (numbers_read p point h.1) (ap (λ k. Ok (k ∷ point)) (mod-eq_of_lt h.0))

point_read : (n : ℕ) (d : PartialProblem) (before : List (List ℕ)) (point rest : List ℕ) → HasHeader d → IsPoint (ring_of d) point
    → read_from n (having d d.zero d.nonzero d.polys d.thesis before) (lines_of (point_line point ++ rest))
    ≡ read_from (n + 1) (having d d.zero d.nonzero d.polys d.thesis (before ++ point ∷ [])) (lines_of rest)
point_read n d before point rest h r =
    keyword_reads n (having d d.zero d.nonzero d.polys d.thesis before) (having d d.zero d.nonzero d.polys d.thesis (before ++ point ∷ [])) (codes "point")
    (flat_map (λ n. codes " " ++ decimal n) point) rest (map (λ n. number n) point)
    (keyword (codes "point") refl) (numbers_stop point) (numbers_say point (numbers_short d.modulus point (modulus_small d.modulus h.modulus) r.below)) tt said
  where
    known : List ℕ → Result PartialProblem TextKind
    known numbers = cond (eqb (length numbers) (length d.parameters)) (Ok (having d d.zero d.nonzero d.polys d.thesis (before ++ numbers ∷ [])))
        (Err fault.Count)

    said : and_then (numbers_said d.modulus (map (λ n. number n) point)) known ≡ Ok (having d d.zero d.nonzero d.polys d.thesis (before ++ point ∷ []))
    said = ap (λ r. and_then r known) (numbers_read d.modulus point r.below)
        ∙ ap (λ b. cond b (Ok (having d d.zero d.nonzero d.polys d.thesis (before ++ point ∷ []))) (Err fault.Count)) (eq-eqb _ _ r.places)

-- the end

end_read : (n : ℕ) (d : PartialProblem) → read_from n (having d d.zero d.nonzero d.polys d.thesis d.points) (lines_of (codes "end\n")) ≡ Ok (problem_of d)
unfolding read_from
end_read n d =
    keyword_reads n (having d d.zero d.nonzero d.polys d.thesis d.points) (record (having d d.zero d.nonzero d.polys d.thesis d.points) { stage = ended })
    (codes "end") [] [] [] (keyword (codes "end") refl) tt says_nothing tt refl

-- The lines after the header are read as what they were printed from.
pub body_reads : (n : ℕ) (d : PartialProblem) → HasHeader d → IsBody d
    → read_from n (having d [] [] [] None []) (lines_of (body_text (problem_of d) ++ codes "end\n")) ≡ Ok (problem_of d)
body_reads n d h b =
    let zeros : List ℕ = polynomial_lines (codes "zero") (ring_of d) (names_of d) d.zero in
    let nonzeros : List ℕ = polynomial_lines (codes "nonzero") (ring_of d) (names_of d) d.nonzero in
    let polys : List ℕ = polynomial_lines (codes "poly") (ring_of d) (names_of d) d.polys in
    let thesis : List ℕ = thesis_line (ring_of d) (names_of d) d.thesis in
    let points : List ℕ = flat_map point_line d.points in
    let end : List ℕ = codes "end\n" in
    let k : ℕ = n + length d.zero + length d.nonzero + length d.polys in
    let t = thesis_read k d d.thesis (points ++ end) h b.thesis in
    ap (λ l. read_from n (having d [] [] [] None []) (lines_of l))
    (append_assoc (((zeros ++ nonzeros) ++ polys) ++ thesis) points end ∙ regroup zeros nonzeros polys thesis (points ++ end))
    ∙ zero_lines n d (nonzeros ++ (polys ++ (thesis ++ (points ++ end)))) h b
    ∙ nonzero_lines (n + length d.zero) d (polys ++ (thesis ++ (points ++ end))) h b
    ∙ poly_lines (n + length d.zero + length d.nonzero) d (thesis ++ (points ++ end)) h b
    ∙ t.1
    ∙ lines_read point_line (IsPoint (ring_of d)) (λ ps. having d d.zero d.nonzero d.polys d.thesis ps)
    (λ n before p rest r. point_read n d before p rest h r) t.0 [] d.points end b.points
    ∙ end_read (t.0 + length d.points) d
