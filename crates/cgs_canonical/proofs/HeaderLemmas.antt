-- The printed lines before the polynomials are read again.
use Rattle.std.proofs.Common.{◌≡◌, ℕ, ◌+◌, ◌<◌, ◌≤◌, false, cond, List, [], ◌∷◌, ◌++◌, map, take, drop, length, codes, decimal, flat_map, Ok, Err, Option, None}
use Rattle.std.proofs.Common.{refl, sym, ap, ◌∙◌, arith, append_assoc, append-nil, bytes_eq, le-leb}
use Rattle.std.specs.List.{AllByRecursion, list_any}
use Rattle.std.proofs.Math.Seq.{drop-append_seam, take-append_seam}
use Rattle.cgs_poly.specs.Polynomial.{Term}
use Rattle.cgs_tokens.specs.Tokens.{is_word}
use Rattle.cgs_field.specs.Prime.{IsModulus}
use Rattle.cgs_field.proofs.PrimeLemmas.{modulus_small}
use Rattle.cgs_order.specs.declared.kind.Kind.{Kind}
use Rattle.cgs_order.specs.declared.kind.Kind.TheVariants.{Lex, GrLex, GrevLex}
use Rattle.cgs_problem.specs.declared.fault.TextKind.TheVariants as fault
use Rattle.cgs_problem.specs.Lexemes.{Lexeme, name, number}
use Rattle.cgs_problem.specs.Lines.{lines_of}
use Rattle.cgs_problem.specs.Drafts.{Stage, parameters_line, variables_line, order_line, body, PartialProblem, names_said, counted, nothing, kind_of}
use Rattle.cgs_problem.specs.Reading.{read_from, problem_of}
use Rattle.cgs_canonical.specs.Printing as printed
use Rattle.cgs_order.specs.Words.{word_of}
use Rattle.cgs_list.specs.Results.{and_then}
use Rattle.cgs_canonical.specs.Printing.{field_line, names_line, header_text}
use Rattle.cgs_canonical.proofs.LexemeLemmas.{Says, Stops, IsName, says_nothing, says_append, space_says, name_says, decimal_says}
use Rattle.cgs_canonical.proofs.MonomialLemmas.{AreNew}
use Rattle.cgs_canonical.proofs.LineLemmas.{keyword_reads, keyword}

-- what a list of names may be: names, each of them new, and none of the others
pub record AreNames (others names : List (List ℕ)) : Type 0 where
  pub named : AllByRecursion IsName names
  pub new : AreNew [] names
  pub apart : AllByRecursion (λ word. list_any (bytes_eq word) others ≡ false) names

-- what the lines before the polynomials may have said
pub record IsHeader (p : ℕ) (parameters variables : List (List ℕ)) : Type 0 where
  pub modulus : IsModulus p
  pub parameter_names : AreNames [] parameters
  pub few_parameters : length parameters ≤ 8
  pub variable_names : AreNames parameters variables
  pub some_variable : 1 ≤ length variables
  pub few_variables : length variables ≤ 8

abbrev pub HasHeader : PartialProblem → Type 0
HasHeader draft = IsHeader draft.modulus draft.parameters draft.variables

-- a draft while the header is read
abbrev so_far : Stage → ℕ → List (List ℕ) → List (List ℕ) → PartialProblem
so_far stage modulus parameters variables = record nothing { stage = stage; modulus = modulus; parameters = parameters; variables = variables }

-- the draft after the header, with these polynomials and points
abbrev pub having : PartialProblem → List (List Term) → List (List Term) → List (List Term) → Option (List Term) → List (List ℕ) → PartialProblem
having d vanishing nonzero polys thesis points = record d { stage = body; zero = vanishing; nonzero = nonzero; polys = polys; thesis = thesis; points = points }

-- the line of the modulus

field_reads : (n modulus : ℕ) (rest : List ℕ) → IsModulus modulus
    → read_from n nothing (lines_of (field_line modulus ++ rest)) ≡ read_from (n + 1) (so_far parameters_line modulus [] []) (lines_of rest)
field_reads n modulus rest m =
    let small : modulus < 65536 = modulus_small modulus m in
    keyword_reads n nothing (so_far parameters_line modulus [] []) (codes "field") (32 ∷ decimal modulus) rest (number modulus ∷ [])
    (keyword (codes "field") refl) refl
    (space_says (decimal modulus) (number modulus ∷ []) (decimal_says modulus (omega arith))) tt
    (ap (λ b. cond b (Ok (so_far parameters_line modulus [] [])) (Err fault.Field)) m)

-- the lines of names

abbrev spaced : List (List ℕ) → List ℕ
spaced names = flat_map (λ word. codes " " ++ word) names

abbrev names_lexemes : List (List ℕ) → List Lexeme
names_lexemes names = map (λ word. name word) names

names_stop : (names : List (List ℕ)) → Stops is_word (spaced names)
names_stop [] = tt
names_stop (word ∷ names) = refl

names_say : (names : List (List ℕ)) → AllByRecursion IsName names → Says (spaced names) (names_lexemes names)
names_say [] h = says_nothing
names_say (word ∷ names) h = space_says _ _
    (says_append word (spaced names) (name word ∷ []) (names_lexemes names) (name_says word h.0) (names_stop names) (names_say names h.1))

names_read : (others before names : List (List ℕ)) → AreNew before names → AllByRecursion (λ word. list_any (bytes_eq word) others ≡ false) names
    → names_said others before (names_lexemes names) ≡ Ok (before ++ names)
names_read others before [] new apart = ap (λ (k : List (List ℕ)). Ok k) (sym (append-nil before))
names_read others before (word ∷ names) new apart =
    rw (apart.0, new.0) (names_read others (before ++ word ∷ []) names new.1 apart.1 ∙ ap (λ (k : List (List ℕ)). Ok k) (append_assoc before (word ∷ []) names))

counted_read : (others names : List (List ℕ)) (least most : ℕ) → AreNames others names → least ≤ length names → length names ≤ most
    → and_then (names_said others [] (names_lexemes names)) (counted least most) ≡ Ok names
counted_read others names least most h low high =
    ap (λ r. and_then r (counted least most)) (names_read others [] names h.new h.apart)
    ∙ rw (le-leb least (length names) low, le-leb (length names) most high) refl

parameters_read : (n : ℕ) (d : PartialProblem) (rest : List ℕ) → HasHeader d
    → read_from n (so_far parameters_line d.modulus [] []) (lines_of (names_line (codes "parameters") d.parameters ++ rest))
    ≡ read_from (n + 1) (so_far variables_line d.modulus d.parameters []) (lines_of rest)
parameters_read n d rest h =
    keyword_reads n (so_far parameters_line d.modulus [] []) (so_far variables_line d.modulus d.parameters []) (codes "parameters") (spaced d.parameters) rest
    (names_lexemes d.parameters) (keyword (codes "parameters") refl)
    (names_stop d.parameters) (names_say d.parameters h.parameter_names.named) tt
    (ap (λ r. and_then {B = PartialProblem} r (λ names. Ok (so_far variables_line d.modulus names [])))
    (counted_read [] d.parameters 0 8 h.parameter_names (omega arith) h.few_parameters))

variables_read : (n : ℕ) (d : PartialProblem) (rest : List ℕ) → HasHeader d
    → read_from n (so_far variables_line d.modulus d.parameters []) (lines_of (names_line (codes "variables") d.variables ++ rest))
    ≡ read_from (n + 1) (so_far order_line d.modulus d.parameters d.variables) (lines_of rest)
variables_read n d rest h =
    keyword_reads n (so_far variables_line d.modulus d.parameters []) (so_far order_line d.modulus d.parameters d.variables) (codes "variables")
    (spaced d.variables) rest (names_lexemes d.variables) (keyword (codes "variables") refl)
    (names_stop d.variables) (names_say d.variables h.variable_names.named) tt
    (ap (λ r. and_then {B = PartialProblem} r (λ names. Ok (so_far order_line d.modulus d.parameters names)))
    (counted_read d.parameters d.variables 1 8 h.variable_names h.some_variable h.few_variables))

-- the line of the term order

kind_says : (kind : Kind) → Says (word_of kind) (name (word_of kind) ∷ [])
kind_says Lex = name_says (codes "lex") (keyword (codes "lex") refl)
kind_says GrLex = name_says (codes "grlex") (keyword (codes "grlex") refl)
kind_says GrevLex = name_says (codes "grevlex") (keyword (codes "grevlex") refl)

kind_read : (kind : Kind) → kind_of (word_of kind) ≡ Ok kind
kind_read Lex = refl
kind_read GrLex = refl
kind_read GrevLex = refl

order_reads : (n : ℕ) (d : PartialProblem) (rest : List ℕ)
    → read_from n (so_far order_line d.modulus d.parameters d.variables) (lines_of (printed.order_line d.kind ++ rest))
    ≡ read_from (n + 1) (having d [] [] [] None []) (lines_of rest)
order_reads n d rest =
    keyword_reads n (so_far order_line d.modulus d.parameters d.variables) (having d [] [] [] None []) (codes "order") (32 ∷ word_of d.kind) rest
    (name (word_of d.kind) ∷ []) (keyword (codes "order") refl) refl
    (space_says (word_of d.kind) (name (word_of d.kind) ∷ []) (kind_says d.kind)) tt
    (ap (λ k. and_then {B = PartialProblem} k (λ kind. Ok (record (so_far body d.modulus d.parameters d.variables) { kind = kind }))) (kind_read d.kind))

pub regroup : (a b c d e : List ℕ) → (((a ++ b) ++ c) ++ d) ++ e ≡ a ++ (b ++ (c ++ (d ++ e)))
regroup a b c d e = append_assoc ((a ++ b) ++ c) d e ∙ append_assoc (a ++ b) c (d ++ e) ∙ append_assoc a b (c ++ (d ++ e))

-- The first four printed lines are read as what they were printed from.
pub header_reads : (d : PartialProblem) (rest : List ℕ) → HasHeader d
    → read_from 1 nothing (lines_of (header_text (problem_of d) ++ rest)) ≡ read_from 5 (having d [] [] [] None []) (lines_of rest)
header_reads d rest h =
    let v : ℕ = length d.variables in
    let names : List (List ℕ) = d.variables ++ d.parameters in
    let tails : drop v names ≡ d.parameters = drop-append_seam d.variables d.parameters in
    let heads : take v names ≡ d.variables = take-append_seam d.variables d.parameters in
    let field : List ℕ = field_line d.modulus in
    let order : List ℕ = printed.order_line d.kind in
    let parameters : List ℕ = names_line (codes "parameters") d.parameters in
    let variables : List ℕ = names_line (codes "variables") d.variables in
    let text : header_text (problem_of d) ++ rest ≡ field ++ (parameters ++ (variables ++ (order ++ rest))) =
    ap (λ ns. (((field ++ names_line (codes "parameters") ns) ++ names_line (codes "variables") (take v names)) ++ order) ++ rest) tails
    ∙ ap (λ ns. (((field ++ parameters) ++ names_line (codes "variables") ns) ++ order) ++ rest) heads
    ∙ regroup field parameters variables order rest in
    ap (λ t. read_from 1 nothing (lines_of t)) text
    ∙ field_reads 1 d.modulus (parameters ++ (variables ++ (order ++ rest))) h.modulus
    ∙ parameters_read 2 d (variables ++ (order ++ rest)) h
    ∙ variables_read 3 d (order ++ rest) h
    ∙ order_reads 4 d rest
