-- A problem that some bytes spell has room for one more variable, whose name is none of its own.
use Rattle.std.proofs.Common.{◌≡◌, ℕ, Bool, true, false, List, [], ◌∷◌, get_or, Ok, refl, sym, ap, ◌∙◌, bytes_eq}
use Rattle.std.specs.Char.{is_ascii_alphabetic}
use Rattle.std.specs.List.{AllByRecursion, list_any}
use Rattle.std.proofs.lemmas.Slice.Eq.{bytes_eq-Decides}
use Rattle.cgs_discover.specs.Refutation.{y_name}
use Rattle.cgs_problem.specs.declared.problem.Problem.{Problem}
use Rattle.cgs_problem.specs.Reading.{problem_spelled}
use Rattle.cgs_canonical.proofs.LexemeLemmas.{IsName}
use Rattle.cgs_canonical.proofs.ValidLemmas.{spelled_names, spelled_few_variables}
use Rattle.cgs_program.specs.Run.{IsRefutable}

-- a name begins with a letter
other_word : (word name : List ℕ) → is_ascii_alphabetic (get_or word 0 0) ≡ false → IsName name → bytes_eq word name ≡ false
other_word word name first h = by_test (bytes_eq word name) refl
  where
    by_test : (t : Bool) → bytes_eq word name ≡ t → bytes_eq word name ≡ false
    by_test false e = e
    by_test true e =
        let same : word ≡ name = (bytes_eq-Decides word name).0 e in
        absurd (let no : true ≡ false = sym h.letter ∙ ap (λ (text : List ℕ). is_ascii_alphabetic (get_or text 0 0)) (sym same) ∙ first in cc)

none_of : (word : List ℕ) (names : List (List ℕ)) → is_ascii_alphabetic (get_or word 0 0) ≡ false → AllByRecursion IsName names
    → list_any (bytes_eq word) names ≡ false
none_of word [] first h = refl
none_of word (name ∷ names) first h = rw (other_word word name first h.0) (none_of word names first h.1)

pub spelled_refutable : (bytes : List ℕ) (problem : Problem) → problem_spelled bytes ≡ Ok problem → IsRefutable problem
spelled_refutable bytes problem e = (spelled_few_variables bytes problem e, none_of y_name problem.names refl (spelled_names bytes problem e))
