-- What some bytes spell is a problem that may be printed and read again.
use Rattle.std.proofs.Common.{◌≡◌, ℕ, ◌+◌, ◌<◌, ◌≤◌, ◌⊎◌, inl, inr, Bool, true, false, cond, ◌||◌, ◌&&◌, ◌==◌, ◌%◌, leb, leb-true, eqb, eqb-true, List, [], ◌∷◌}
use Rattle.std.proofs.Common.{◌++◌, length, codes, Result, Ok, Err, Option, Some, None, refl, sym, ap, ◌∙◌, subst, append_assoc, append-nil, bytes_eq}
use Rattle.std.specs.List.{AllByRecursion, list_any}
use Rattle.std.proofs.Math.Nat.{mod-lt}
use Rattle.std.proofs.lemmas.List.{length-append}
use Rattle.cgs_list.proofs.ListLemmas.{all_append}
use Rattle.cgs_field.specs.Prime.{moduli, IsModulus}
use Rattle.cgs_poly.specs.Polynomial.{Term, greatest_degree}
use Rattle.cgs_list.specs.Results.{and_then}
use Rattle.cgs_point.specs.Points.{IsPoint}
use Rattle.cgs_problem.specs.declared.problem.Problem.{Problem}
use Rattle.cgs_problem.specs.declared.fault.TextKind.{TextKind}
use Rattle.cgs_problem.specs.declared.fault.TextKind.TheVariants as fault
use Rattle.cgs_problem.specs.Lexemes.{Lexeme, name, number, line_lexemes}
use Rattle.cgs_problem.specs.Lines.{lines_of, without_cr, is_passed_over}
use Rattle.cgs_problem.specs.Sums.{polynomial_said}
use Rattle.cgs_problem.specs.Drafts.{Stage, field_line, parameters_line, variables_line, order_line, body, ended, PartialProblem, nothing, ring_of, field_said}
use Rattle.cgs_problem.specs.Drafts.{names_said, counted, parameters_said, variables_said, kind_of, order_said, condition_said, equation_said, claim_said}
use Rattle.cgs_problem.specs.Drafts.{zero_said, nonzero_said, poly_said, first_thesis_said, thesis_said, with_number, numbers_said, point_said, end_said}
use Rattle.cgs_problem.specs.Drafts.{body_said, line_said}
use Rattle.cgs_problem.specs.Reading.{line_read, taken, problem_of, ended_at, at_line, read_from, problem_spelled}
use Rattle.cgs_problem.specs.Problems.{greatest_thesis_degree}
use Rattle.cgs_canonical.proofs.LexemeLemmas.{IsName}
use Rattle.cgs_canonical.proofs.MonomialLemmas.{AreNew}
use Rattle.cgs_canonical.proofs.PolynomialLemmas.{IsReadable}
use Rattle.cgs_canonical.proofs.HeaderLemmas.{AreNames, HasHeader}
use Rattle.cgs_canonical.proofs.BodyLemmas.{reader_of, IsBody, positive}
use Rattle.cgs_canonical.proofs.NameLemmas.{Holds, IsLexeme, lexemes_named}
use Rattle.cgs_canonical.proofs.ReadableLemmas.{bind_holds, polynomial_readable}

-- a problem that some bytes may have spelled
pub record IsSpelled (problem : Problem) : Type 0 where
  pub draft : PartialProblem
  pub same : problem_of draft ≡ problem
  pub header : HasHeader draft
  pub body : IsBody draft

-- no line after the header was read
abbrev pub IsBare : PartialProblem → Type 0
IsBare draft = (draft.zero ≡ []) × (draft.nonzero ≡ []) × (draft.polys ≡ []) × (draft.thesis ≡ None) × (draft.points ≡ [])

-- what is known of a draft at each stage
abbrev pub Known : Stage → PartialProblem → Type 0
Known field_line draft = IsBare draft
Known parameters_line draft = IsModulus draft.modulus × IsBare draft
Known variables_line draft = IsModulus draft.modulus × AreNames [] draft.parameters × (length draft.parameters ≤ 8) × IsBare draft
Known order_line draft = HasHeader draft × IsBare draft
Known body draft = HasHeader draft × IsBody draft
Known ended draft = HasHeader draft × IsBody draft

abbrev pub IsKnown : PartialProblem → Type 0
IsKnown draft = Known draft.stage draft

bare_body : (d : PartialProblem) → IsBare d → IsBody d
bare_body d h = record { zero = rw h.0 tt; nonzero = rw h.1 tt; polys = rw h.2 tt; thesis = rw h.3 tt; points = rw h.4 tt }

-- the lines of the header

new_last : (before names : List (List ℕ)) (word : List ℕ) → AreNew before names → list_any (bytes_eq word) (before ++ names) ≡ false
    → AreNew before (names ++ word ∷ [])
new_last before [] word h free = (ap (list_any (bytes_eq word)) (sym (append-nil before)) ∙ free, tt)
new_last before (w ∷ names) word h free =
    (h.0, new_last (before ++ w ∷ []) names word h.1 (ap (list_any (bytes_eq word)) (append_assoc before (w ∷ []) names) ∙ free))

all_last : {X : Type 0} (P : X → Type 0) (xs : List X) (x : X) → AllByRecursion P xs → P x → AllByRecursion P (xs ++ x ∷ [])
all_last P xs x h p = all_append P xs (x ∷ []) h (p, tt)

names_known : (others names : List (List ℕ)) (lexemes : List Lexeme) → AreNames others names → AllByRecursion IsLexeme lexemes
    → Holds (AreNames others) (names_said others names lexemes)
names_known others names [] h k = h
names_known others names (name word ∷ lexemes) h k =
    step (list_any (bytes_eq word) others) (list_any (bytes_eq word) names) refl refl (λ g. names_known others (names ++ word ∷ []) lexemes g k.1)
  where
    step : (a b : Bool) → list_any (bytes_eq word) others ≡ a → list_any (bytes_eq word) names ≡ b
        → (AreNames others (names ++ word ∷ []) → Holds (AreNames others) (names_said others (names ++ word ∷ []) lexemes))
        → Holds (AreNames others) (cond (a || b) (Err fault.Name) (names_said others (names ++ word ∷ []) lexemes))
    step true b p q go = tt
    step false true p q go = tt
    step false false p q go = go (record {
      named = all_last IsName names word h.named k.0;
      new = new_last [] names word h.new q;
      apart =
          all_last (λ word. list_any (bytes_eq word) others ≡ false) names word h.apart p;
    })
names_known others names (lexeme ∷ lexemes) h k = tt

abbrev AreCounted : List (List ℕ) → ℕ → ℕ → List (List ℕ) → Type 0
AreCounted others least most names = AreNames others names × (least ≤ length names) × (length names ≤ most)

counted_known : (others : List (List ℕ)) (least most : ℕ) (lexemes : List Lexeme) → AllByRecursion IsLexeme lexemes
    → Holds (AreCounted others least most) (and_then (names_said others [] lexemes) (counted least most))
counted_known others least most lexemes k =
    bind_holds (AreNames others) (AreCounted others least most) (names_said others [] lexemes) (counted least most)
    (names_known others [] lexemes (record { named = tt; new = tt; apart = tt }) k)
    (λ names h. step names h (leb least (length names)) (leb (length names) most) refl refl)
  where
    step : (names : List (List ℕ)) → AreNames others names → (a b : Bool) → leb least (length names) ≡ a → leb (length names) most ≡ b
        → Holds (AreCounted others least most) (cond (a && b) (Ok names) (Err fault.Count))
    step names h true true p q = (h, leb-true _ _ p, leb-true _ _ q)
    step names h true false p q = tt
    step names h false b p q = tt

field_known : (d : PartialProblem) (lexemes : List Lexeme) → IsBare d → Holds IsKnown (field_said d lexemes)
field_known d (number p ∷ []) h = step (list_any (λ q. q == p) moduli) refl
  where
    step : (b : Bool) → list_any (λ q. q == p) moduli ≡ b → Holds IsKnown (cond b (Ok (record d { stage = parameters_line; modulus = p })) (Err fault.Field))
    step true e = (e, h)
    step false e = tt
field_known d lexemes h = tt

parameters_known : (d : PartialProblem) (lexemes : List Lexeme) → IsModulus d.modulus → IsBare d → AllByRecursion IsLexeme lexemes
    → Holds IsKnown (parameters_said d lexemes)
parameters_known d lexemes m h k =
    bind_holds (AreCounted [] 0 8) IsKnown (and_then (names_said [] [] lexemes) (counted 0 8))
    (λ names. Ok (record d { stage = variables_line; parameters = names })) (counted_known [] 0 8 lexemes k) (λ names g. (m, g.0, g.2, h))

variables_known : (d : PartialProblem) (lexemes : List Lexeme) → IsModulus d.modulus → AreNames [] d.parameters → length d.parameters ≤ 8 → IsBare d
    → AllByRecursion IsLexeme lexemes
    → Holds IsKnown (variables_said d lexemes)
variables_known d lexemes m p few h k =
    bind_holds (AreCounted d.parameters 1 8) IsKnown (and_then (names_said d.parameters [] lexemes) (counted 1 8))
    (λ names. Ok (record d { stage = order_line; variables = names })) (counted_known d.parameters 1 8 lexemes k)
    (λ names g. (record { modulus = m; parameter_names = p; few_parameters = few; variable_names = g.0; some_variable = g.1; few_variables = g.2 }, h))

any : {A : Type 0} (r : Result A TextKind) → Holds (λ x. Unit {0}) r
any (Ok x) = tt
any (Err e) = tt

order_known : (d : PartialProblem) (lexemes : List Lexeme) → HasHeader d → IsBare d → Holds IsKnown (order_said d lexemes)
order_known d (name word ∷ []) h b =
    bind_holds (λ kind. Unit {0}) IsKnown (kind_of word) (λ kind. Ok (record d { stage = body; kind = kind })) (any (kind_of word))
    (λ kind u. (h, bare_body (record d { stage = body; kind = kind }) b))
order_known d lexemes h b = tt

-- the lines after the header

-- a draft of the same stage
in_body : (d next : PartialProblem) → d.stage ≡ body → next.stage ≡ d.stage → HasHeader next → IsBody next → IsKnown next
in_body d next e s h b = let both : Known body next = (h, b) in subst (λ stage. Known stage next) (sym (s ∙ e)) both

polynomial_known : (d : PartialProblem) (barred most : ℕ) (lexemes : List Lexeme) → HasHeader d → (barred ≡ 0) ⊎ (barred ≡ length d.variables)
    → Holds (IsReadable (reader_of d barred most)) (polynomial_said (reader_of d barred most) lexemes)
polynomial_known d barred most lexemes h b =
    polynomial_readable (reader_of d barred most) lexemes (positive d h) (record { named = length-append d.variables d.parameters; barred = b })

zero_known : (d : PartialProblem) (lexemes : List Lexeme) → d.stage ≡ body → HasHeader d → IsBody d → Holds IsKnown (zero_said d lexemes)
zero_known d lexemes e h b =
    bind_holds (IsReadable (reader_of d (length d.variables) greatest_degree)) IsKnown (condition_said d lexemes)
    (λ f. Ok (record d { zero = d.zero ++ f ∷ [] }))
    (polynomial_known d (length d.variables) greatest_degree lexemes h (inr refl))
    (λ f r. in_body d (record d { zero = d.zero ++ f ∷ [] }) e refl h
    (record { zero = all_last _ d.zero f b.zero r; nonzero = b.nonzero; polys = b.polys; thesis = b.thesis; points = b.points }))

nonzero_known : (d : PartialProblem) (lexemes : List Lexeme) → d.stage ≡ body → HasHeader d → IsBody d → Holds IsKnown (nonzero_said d lexemes)
nonzero_known d lexemes e h b =
    bind_holds (IsReadable (reader_of d (length d.variables) greatest_degree)) IsKnown (condition_said d lexemes)
    (λ f. Ok (record d { nonzero = d.nonzero ++ f ∷ [] }))
    (polynomial_known d (length d.variables) greatest_degree lexemes h (inr refl))
    (λ f r. in_body d (record d { nonzero = d.nonzero ++ f ∷ [] }) e refl h
    (record { zero = b.zero; nonzero = all_last _ d.nonzero f b.nonzero r; polys = b.polys; thesis = b.thesis; points = b.points }))

poly_known : (d : PartialProblem) (lexemes : List Lexeme) → d.stage ≡ body → HasHeader d → IsBody d → Holds IsKnown (poly_said d lexemes)
poly_known d lexemes e h b =
    bind_holds (IsReadable (reader_of d 0 greatest_degree)) IsKnown (equation_said d lexemes) (λ f. Ok (record d { polys = d.polys ++ f ∷ [] }))
    (polynomial_known d 0 greatest_degree lexemes h (inl refl))
    (λ f r. in_body d (record d { polys = d.polys ++ f ∷ [] }) e refl h
    (record { zero = b.zero; nonzero = b.nonzero; polys = all_last _ d.polys f b.polys r; thesis = b.thesis; points = b.points }))

thesis_known : (d : PartialProblem) (thesis : Option (List Term)) (lexemes : List Lexeme) → d.stage ≡ body → HasHeader d → IsBody d
    → Holds IsKnown (first_thesis_said d thesis lexemes)
thesis_known d (Some thesis) lexemes e h b = tt
thesis_known d None lexemes e h b =
    bind_holds (IsReadable (reader_of d 0 greatest_thesis_degree)) IsKnown (claim_said d lexemes) (λ f. Ok (record d { thesis = Some f }))
    (polynomial_known d 0 greatest_thesis_degree lexemes h (inl refl))
    (λ f r. in_body d (record d { thesis = Some f }) e refl h (record { zero = b.zero; nonzero = b.nonzero; polys = b.polys; thesis = r; points = b.points }))

numbers_known : (p : ℕ) (lexemes : List Lexeme) → 0 < p → Holds (AllByRecursion (λ n. n < p)) (numbers_said p lexemes)
numbers_known p [] pos = tt
numbers_known p (number n ∷ lexemes) pos = before (numbers_said p lexemes) (numbers_known p lexemes pos)
  where
    before : (r : Result (List ℕ) TextKind) → Holds (AllByRecursion (λ n. n < p)) r → Holds (AllByRecursion (λ n. n < p)) (with_number (n % p) r)
    before (Ok ns) h = (mod-lt n pos, h)
    before (Err e) h = tt
numbers_known p (lexeme ∷ lexemes) pos = tt

point_known : (d : PartialProblem) (lexemes : List Lexeme) → d.stage ≡ body → HasHeader d → IsBody d → Holds IsKnown (point_said d lexemes)
point_known d lexemes e h b =
    bind_holds (AllByRecursion (λ n. n < d.modulus)) IsKnown (numbers_said d.modulus lexemes)
    (λ numbers. cond (eqb (length numbers) (length d.parameters)) (Ok (record d { points = d.points ++ numbers ∷ [] })) (Err fault.Count))
    (numbers_known d.modulus lexemes (positive d h)) (λ numbers below. step numbers below (eqb (length numbers) (length d.parameters)) refl)
  where
    step : (numbers : List ℕ) → AllByRecursion (λ n. n < d.modulus) numbers → (t : Bool) → eqb (length numbers) (length d.parameters) ≡ t
        → Holds IsKnown (cond t (Ok (record d { points = d.points ++ numbers ∷ [] })) (Err fault.Count))
    step numbers below false q = tt
    step numbers below true q =
        let at : IsPoint (ring_of d) numbers = record { places = eqb-true _ _ q; below = below } in
        in_body d (record d { points = d.points ++ numbers ∷ [] }) e refl h
        (record {
          zero = b.zero;
          nonzero = b.nonzero;
          polys = b.polys;
          thesis = b.thesis;
          points =
              all_last (IsPoint (ring_of d)) d.points numbers b.points at;
        })

end_known : (d : PartialProblem) (lexemes : List Lexeme) → HasHeader d → IsBody d → Holds IsKnown (end_said d lexemes)
end_known d [] h b = (h, record { zero = b.zero; nonzero = b.nonzero; polys = b.polys; thesis = b.thesis; points = b.points })
end_known d (lexeme ∷ lexemes) h b = tt

body_known : (d : PartialProblem) (word : List ℕ) (lexemes : List Lexeme) → d.stage ≡ body → HasHeader d → IsBody d → Holds IsKnown (body_said d word lexemes)
body_known d word lexemes e h b = step (bytes_eq word (codes "zero")) (bytes_eq word (codes "nonzero")) (bytes_eq word (codes "poly"))
    (bytes_eq word (codes "thesis")) (bytes_eq word (codes "point")) (bytes_eq word (codes "end"))
  where
    step : (z n p t q f : Bool)
        → Holds IsKnown (cond z (zero_said d lexemes)
        (cond n (nonzero_said d lexemes)
        (cond p (poly_said d lexemes) (cond t (thesis_said d lexemes) (cond q (point_said d lexemes) (cond f (end_said d lexemes) (Err fault.Place)))))))
    step true n p t q f = zero_known d lexemes e h b
    step false true p t q f = nonzero_known d lexemes e h b
    step false false true t q f = poly_known d lexemes e h b
    step false false false true q f = thesis_known d d.thesis lexemes e h b
    step false false false false true f = point_known d lexemes e h b
    step false false false false false true = end_known d lexemes h b
    step false false false false false false = tt

-- a line

if_named : (t : Bool) (r : Result PartialProblem TextKind) → Holds IsKnown r → Holds IsKnown (cond t r (Err fault.Place))
if_named true r h = h
if_named false r h = tt

line_known : (stage : Stage) (d : PartialProblem) (lexemes : List Lexeme) → d.stage ≡ stage → Known stage d → AllByRecursion IsLexeme lexemes
    → Holds IsKnown (line_said stage d lexemes)
line_known field_line d (name word ∷ lexemes) e h k = if_named (bytes_eq word (codes "field")) (field_said d lexemes) (field_known d lexemes h)
line_known parameters_line d (name word ∷ lexemes) e h k =
    if_named (bytes_eq word (codes "parameters")) (parameters_said d lexemes) (parameters_known d lexemes h.0 h.1 k.1)
line_known variables_line d (name word ∷ lexemes) e h k =
    if_named (bytes_eq word (codes "variables")) (variables_said d lexemes) (variables_known d lexemes h.0 h.1 h.2 h.3 k.1)
line_known order_line d (name word ∷ lexemes) e h k = if_named (bytes_eq word (codes "order")) (order_said d lexemes) (order_known d lexemes h.0 h.1)
line_known body d (name word ∷ lexemes) e h k = body_known d word lexemes e h.0 h.1
line_known stage d lexemes e h k = tt

read_known : (stage : Stage) (d : PartialProblem) (line : List ℕ) → d.stage ≡ stage → Known stage d → Holds IsKnown (line_read stage d line)
read_known ended d line e h = tt
read_known field_line d line e h = bind_holds (AllByRecursion IsLexeme) IsKnown (line_lexemes line) (line_said field_line d) (lexemes_named line)
    (λ ls k. line_known field_line d ls e h k)
read_known parameters_line d line e h = bind_holds (AllByRecursion IsLexeme) IsKnown (line_lexemes line) (line_said parameters_line d) (lexemes_named line)
    (λ ls k. line_known parameters_line d ls e h k)
read_known variables_line d line e h = bind_holds (AllByRecursion IsLexeme) IsKnown (line_lexemes line) (line_said variables_line d) (lexemes_named line)
    (λ ls k. line_known variables_line d ls e h k)
read_known order_line d line e h = bind_holds (AllByRecursion IsLexeme) IsKnown (line_lexemes line) (line_said order_line d) (lexemes_named line)
    (λ ls k. line_known order_line d ls e h k)
read_known body d line e h = bind_holds (AllByRecursion IsLexeme) IsKnown (line_lexemes line) (line_said body d) (lexemes_named line)
    (λ ls k. line_known body d ls e h k)

taken_known : (d : PartialProblem) (line : List ℕ) → IsKnown d → Holds IsKnown (taken d line)
taken_known d line h = step (is_passed_over line)
  where
    step : (t : Bool) → Holds IsKnown (cond t (Ok d) (line_read d.stage d line))
    step true = h
    step false = read_known d.stage d line refl h

-- a text

ended_known : (n : ℕ) (d : PartialProblem) (stage : Stage) → Known stage d → Holds IsSpelled (ended_at n d stage)
ended_known n d ended h = record { draft = d; same = refl; header = h.0; body = h.1 }
ended_known n d stage h = tt

lines_known : (n : ℕ) (d : PartialProblem) (lines : List (List ℕ)) → IsKnown d → Holds IsSpelled (read_from n d lines)
unfolding read_from
lines_known n d [] h = ended_known n d d.stage h
lines_known n d (line ∷ lines) h = step (taken d (without_cr line)) (taken_known d (without_cr line) h) (λ next k. lines_known (n + 1) next lines k)
  where
    step : (r : Result PartialProblem TextKind) → Holds IsKnown r → ((next : PartialProblem) → IsKnown next → Holds IsSpelled (read_from (n + 1) next lines))
        → Holds IsSpelled (at_line n r (λ next. read_from (n + 1) next lines))
    step (Ok next) k go = go next k
    step (Err e) k go = tt

pub spelled_valid : (bytes : List ℕ) (problem : Problem) → problem_spelled bytes ≡ Ok problem → IsSpelled problem
spelled_valid bytes problem e = subst (Holds IsSpelled) e (lines_known 1 nothing (lines_of bytes) (refl, refl, refl, refl, refl))
