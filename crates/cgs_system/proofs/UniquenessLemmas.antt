-- A problem has at most one exact list, since an ideal has at most one reduced Gröbner basis with ascending leads.
use Rattle.std.proofs.Common.{ℕ, ◌≡◌, ◌<◌, List, [], ◌∷◌, ◌++◌, refl, ap, subst, arith}
use Rattle.cgs_field.proofs.PrimeLemmas.{modulus_field}
use Rattle.cgs_poly.specs.Ring.{Ring}
use Rattle.cgs_poly.specs.Polynomial.{one, Term}
use Rattle.cgs_algebra.specs.Stability.{other_members}
use Rattle.cgs_algebra.proofs.UniquenessLemmas.{reduced_unique}
use Rattle.cgs_entry.specs.declared.entry.Entry.{Entry}
use Rattle.cgs_dickson.specs.Dickson.{minimal_dickson}
use Rattle.cgs_split.specs.Cases.{Case}
use Rattle.cgs_split.specs.Nodes.{children_of}
use Rattle.cgs_system.specs.ExactList.{IsReducedBasisOf, IsExactNode, empty, solved, whole, divided, at_paths, AreExactTrees, none, tree}
use Rattle.cgs_system.specs.Laws.{ExactListIsUnique}

pub first_same : (x y : List ℕ × Case) (xs ys : List (List ℕ × Case)) → x ∷ xs ≡ y ∷ ys → x ≡ y
first_same x y xs ys e = cc

pub others_same : (x y : List ℕ × Case) (xs ys : List (List ℕ × Case)) → x ∷ xs ≡ y ∷ ys → xs ≡ ys
others_same x y xs ys e = cc

module _ (ring : Ring) (pos : 0 < ring.modulus) where
  basis_unique : (branch : Case) (G H : List (List Term)) → IsReducedBasisOf ring branch G → IsReducedBasisOf ring branch H → G ≡ H
  basis_unique branch G H g h = reduced_unique ring (branch.polys ++ branch.zero) G H pos g.reduced h.reduced g.ascending h.ascending

  abbrev SameNode : List Entry → List Entry → List Case → List Case → Type 0
  SameNode own mine children others = (own ≡ mine) × (children ≡ others)

  -- a branch has one node
  node_unique : (branch : Case) (path : List ℕ) (own mine : List Entry) (children others : List Case)
      → IsExactNode ring branch path own children → IsExactNode ring branch path mine others → SameNode own mine children others
  node_unique branch path own mine children others (empty c) (empty d) = (refl, refl)
  node_unique branch path own mine children others (empty c) (solved d l) = absurd (d c)
  node_unique branch path own mine children others (empty c) (whole d l h) = absurd (d c)
  node_unique branch path own mine children others (empty c) (divided d l H h m) = absurd (d c)
  node_unique branch path own mine children others (solved c k) (empty d) = absurd (c d)
  node_unique branch path own mine children others (solved c k) (solved d l) = (refl, refl)
  node_unique branch path own mine children others (solved c k) (whole d l h) = absurd (k l)
  node_unique branch path own mine children others (solved c k) (divided d l H h m) = absurd (k l)
  node_unique branch path own mine children others (whole c k g) (empty d) = absurd (c d)
  node_unique branch path own mine children others (whole c k g) (solved d l) = absurd (l k)
  node_unique branch path own mine children others (whole c k g) (whole d l h) = (refl, refl)
  node_unique branch path own mine children others (whole c k g) (divided d l H h m) = absurd (m (basis_unique branch H (one ring ∷ []) h g))
  node_unique branch path own mine children others (divided c k G g n) (empty d) = absurd (c d)
  node_unique branch path own mine children others (divided c k G g n) (solved d l) = absurd (l k)
  node_unique branch path own mine children others (divided c k G g n) (whole d l h) = absurd (n (basis_unique branch G (one ring ∷ []) g h))
  node_unique branch path own mine children others (divided c k G g n) (divided d l H h m) =
      (refl, ap (λ K. children_of ring branch K (minimal_dickson ring (other_members ring K))) (basis_unique branch G H g h))

  -- the trees of some branches have one list of entries
  trees_unique : (bs cs : List (List ℕ × Case)) (es fs : List Entry) → bs ≡ cs → AreExactTrees ring bs es → AreExactTrees ring cs fs → es ≡ fs
  trees_unique bs cs es fs e none none = refl
  trees_unique bs cs es fs e none (tree q c cs' children own below rest n t u) = absurd (cc)
  trees_unique bs cs es fs e (tree p b bs' children own below rest n t u) none = absurd (cc)
  trees_unique bs cs es fs e (tree p b bs' children own below rest n t u) (tree q c cs' grown mine under next m v w) =
      let first : ◌≡◌ {A = List ℕ × Case} (p, b) (q, c) = first_same (p, b) (q, c) bs' cs' e in
      let path : p ≡ q = ap {A = List ℕ × Case} (λ x. x.0) first in
      let branch : b ≡ c = ap {A = List ℕ × Case} (λ x. x.1) first in
      let there : IsExactNode ring c q own children =
      subst (λ x. IsExactNode ring c x own children) path (subst (λ x. IsExactNode ring x p own children) branch n) in
      let same = node_unique c q own mine children grown there m in
      let lower : below ≡ under = trees_unique (at_paths p 0 children) (at_paths q 0 grown) below under (cc (path, same.1)) t v in
      let beside : rest ≡ next = trees_unique bs' cs' rest next (others_same (p, b) (q, c) bs' cs' e) u w in
      cc (same.0, lower, beside)

pub exact_unique : ExactListIsUnique
exact_unique ring E N F first second r h k =
    trees_unique ring (omega (arith, (modulus_field ring.modulus r.modulus).two)) _ _ first second refl
    (h (record { budget = 0; depth = 0 })) (k (record { budget = 0; depth = 0 }))
