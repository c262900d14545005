-- The list of a tree is comprehensive, by induction over the tree.
use Rattle.std.proofs.Common.{ℕ, ◌≡◌, ◌+◌, ◌<◌, ◌≤◌, inl, inr, Bool, true, false, cond, List, [], ◌∷◌, ◌++◌, refl, ap, ◌∙◌, arith}
use Rattle.std.proofs.Math.Nat.{add-zero}
use Rattle.std.specs.List.{AllByRecursion}
use Rattle.cgs_list.proofs.ListLemmas.{all_append, all_weaker}
use Rattle.cgs_field.specs.Prime.{IsField}
use Rattle.cgs_field.proofs.PrimeLemmas.{modulus_field}
use Rattle.cgs_poly.specs.Ring.{Ring}
use Rattle.cgs_poly.specs.Polynomial.{one, Term, IsCanonical, IsRing}
use Rattle.cgs_poly.specs.Parameters.{variables_ring, specialised}
use Rattle.cgs_algebra.specs.Combination.{IsMember}
use Rattle.cgs_algebra.specs.Specialisation.{IsParametric, specialised_list}
use Rattle.cgs_algebra.proofs.MemberLemmas.{generator_member}
use Rattle.cgs_algebra.proofs.PlaceLemmas.{of_ring_at}
use Rattle.cgs_point.specs.Points.{IsPoint}
use Rattle.cgs_poly.specs.Monic.{monic_of}
use Rattle.cgs_poly.proofs.OneLemmas.{one_canonical}
use Rattle.cgs_entry.specs.declared.entry.Entry.{Entry}
use Rattle.cgs_entry.specs.declared.entry.EntryKind.{EntryKind}
use Rattle.cgs_entry.specs.declared.entry.EntryKind.TheVariants.{Solved, Refused}
use Rattle.cgs_entry.specs.Conditions.{with_members, is_in_region}
use Rattle.cgs_entry.specs.Entries.{IsBasisAt, IsSound, entries_at, IsComprehensive}
use Rattle.cgs_entry.proofs.CoverLemmas.{entries_first}
use Rattle.cgs_split.specs.declared.kind.Limits.{Limits}
use Rattle.cgs_split.specs.Cases.{Case}
use Rattle.cgs_split.specs.Nodes.{is_point_of, branches_at}
use Rattle.cgs_split.specs.Soundness.{IsBranch, IsPointOf, SameIdealAt, IsGood, IsSoundChild}
use Rattle.cgs_split.specs.Trees.{entry_of, IsNode, empty, refused, solved, whole, divided, AreTreesOf, none, tree, root_case, IsSoundNode}
use Rattle.cgs_split.proofs.ConditionLemmas.{all_with_all, none_with_all, region_told, told_region, each_with_all}
use Rattle.cgs_algebra.proofs.SameIdealLemmas.{same_ideal_trans}
use Rattle.cgs_split.proofs.IdealLemmas.{members_at, specials_canonical}
use Rattle.cgs_entry.proofs.OneLemmas.{one_basis}
use Rattle.cgs_split.proofs.NodeLemmas.{monic_parametric, basis_of_same, children_sound, children_partition}

-- lists of branches and entries

pub entries_append : (ring : Ring) (a : List ℕ) (es fs : List Entry) → entries_at ring a (es ++ fs) ≡ entries_at ring a es + entries_at ring a fs
entries_append ring a [] fs = omega arith
entries_append ring a (e ∷ es) fs = omega (arith, entries_append ring a es fs, entries_first ring a e es, entries_first ring a e (es ++ fs))

-- a branch that a point is of is counted
counted : (ring : Ring) (a : List ℕ) (n : ℕ) (bs : List Case) → branches_at ring a bs ≤ n → AllByRecursion (λ b. is_point_of ring a b ≡ true → 0 < n) bs
counted ring a n [] l = tt
counted ring a n (b ∷ bs) l = (λ e. omega (arith, rw e at l), counted ring a n bs (omega arith))

all_points : (Q : List ℕ → Type 0) (P : List ℕ → Case → Type 0) (bs : List Case) → ((a : List ℕ) → Q a → AllByRecursion (P a) bs)
    → AllByRecursion (λ b. (a : List ℕ) → Q a → P a b) bs
all_points Q P [] h = tt
all_points Q P (b ∷ bs) h = (λ a q. (h a q).0, all_points Q P bs (λ a q. (h a q).1))

branch_both : (P Q : Case → Type 0) (bs : List Case) → AllByRecursion P bs → AllByRecursion Q bs → AllByRecursion (λ b. P b × Q b) bs
branch_both P Q [] h k = tt
branch_both P Q (b ∷ bs) h k = ((h.0, k.0), branch_both P Q bs h.1 k.1)

module _ (ring : Ring) (r : IsRing ring) where
  abbrev field : IsField ring.modulus
  field = modulus_field ring.modulus r.modulus

  abbrev pos : 0 < ring.modulus
  pos = omega (arith, (modulus_field ring.modulus r.modulus).two)

  -- each point is counted once

  alone : (a : List ℕ) (branch : Case) (path : List ℕ) (kind : EntryKind)
      → entries_at ring a (entry_of branch path kind ∷ []) + 0 ≡ cond (is_point_of ring a branch) 1 0
  alone a branch path kind = omega (arith, entries_first ring a (entry_of branch path kind) [])

  node_count : (a : List ℕ) → IsPoint ring a → (branch : Case) → IsBranch ring branch → (path : List ℕ) (own : List Entry) (children : List Case)
      → IsNode ring branch path own children
      → entries_at ring a own + branches_at ring a children ≡ cond (is_point_of ring a branch) 1 0
  node_count a point branch ok path own children (empty h) = rw (h a point) refl
  node_count a point branch ok path own children (solved k tested) = alone a branch path (Solved branch.polys tested)
  node_count a point branch ok path own children (refused k cause) = alone a branch path (Refused cause)
  node_count a point branch ok path own children (whole k basis tested) = alone a branch path (Solved (one ring ∷ []) tested)
  node_count a point branch ok path own children (divided k G M basis) = omega (arith, children_partition ring r branch ok G M basis a)

  -- the children of a node are sound
  node_below : (branch : Case) → IsBranch ring branch → (path : List ℕ) (own : List Entry) (children : List Case) → IsNode ring branch path own children
      → AllByRecursion (IsSoundChild ring branch) children
  node_below branch ok path own children (empty h) = tt
  node_below branch ok path own children (solved k tested) = tt
  node_below branch ok path own children (refused k cause) = tt
  node_below branch ok path own children (whole k basis tested) = tt
  node_below branch ok path own children (divided k G M basis) = children_sound ring r branch ok G M basis

  -- and branches of the ring
  pub node_valid : (branch : Case) → IsBranch ring branch → (path : List ℕ) (own : List Entry) (children : List Case) → IsNode ring branch path own children
      → AllByRecursion (IsBranch ring) children
  node_valid branch ok path own children n =
      all_weaker (IsSoundChild ring branch) (IsBranch ring) children (node_below branch ok path own children n) (λ c s. s.valid)

  trees_count : (a : List ℕ) → IsPoint ring a → (branches : List Case) (entries : List Entry) → AreTreesOf ring branches entries
      → AllByRecursion (IsBranch ring) branches
      → entries_at ring a entries ≡ branches_at ring a branches
  trees_count a point branches entries none ok = refl
  trees_count a point branches entries (tree branch path children others own below rest n t u) ok =
      omega (
        arith,
        entries_append ring a (own ++ below) rest,
        entries_append ring a own below,
        node_count a point branch ok.0 path own children n,
        trees_count a point children below t (node_valid branch ok.0 path own children n),
        trees_count a point others rest u ok.1,
      )

  -- a point of a child is one of the branch

  child_inside : (a : List ℕ) → IsPoint ring a → (branch : Case) → IsBranch ring branch → (path : List ℕ) (own : List Entry) (children : List Case)
      → IsNode ring branch path own children
      → AllByRecursion (λ c. IsPointOf ring a c → IsPointOf ring a branch) children
  child_inside a point branch ok path own children n =
      all_weaker (λ c. is_point_of ring a c ≡ true → 0 < cond (is_point_of ring a branch) 1 0) (λ c. IsPointOf ring a c → IsPointOf ring a branch) children
      (counted ring a (cond (is_point_of ring a branch) 1 0) children (omega (arith, node_count a point branch ok path own children n)))
      (λ c k h. by_test (is_point_of ring a branch) refl (k (told_region ring a c.zero c.nonzero h)))
    where
      by_test : (b : Bool) → is_point_of ring a branch ≡ b → 0 < cond b 1 0 → IsPointOf ring a branch
      by_test true e l = region_told ring a branch.zero branch.nonzero e
      by_test false e l = absurd (omega arith)

  -- the basis of a node's own entry

  one_polys : AllByRecursion (IsCanonical ring) (one ring ∷ [])
  one_polys = (one_canonical ring field.two, tt)

  node_based : (branch : Case) → IsBranch ring branch → IsGood ring branch → (path : List ℕ) (own : List Entry) (children : List Case)
      → IsNode ring branch path own children → AllByRecursion (IsSound ring branch.polys) own
  node_based branch ok good path own children (empty k) = tt
  node_based branch ok good path own children (refused k cause) = (record { zero = ok.zero; nonzero = ok.nonzero; serves = tt }, tt)
  node_based branch ok good path own children (divided k G M basis) = tt
  node_based branch ok good path own children (solved k tested) = (
    record { zero = ok.zero; nonzero = ok.nonzero; serves = record { canonical = ok.polys; at = λ a point i. by_good a i good } },
    tt,
  )
    where
      by_good : (a : List ℕ) → IsPointOf ring a branch → IsGood ring branch → IsBasisAt ring a branch.polys branch.polys
      by_good a i (inl e) = absurd (k e)
      by_good a i (inr g) = g a i
  node_based branch ok good path own children (whole k basis tested) = (
    record {
      zero = ok.zero;
      nonzero = ok.nonzero;
      serves = record { canonical = one_polys; at = λ a point i. one_basis ring a field.two branch.polys (one_there a i) };
    },
    tt,
  )
    where
      one_there : (a : List ℕ) → IsPointOf ring a branch → IsMember (variables_ring ring) (specialised_list ring a branch.polys) (specialised ring a (one ring))
      one_there a i =
          members_at ring a pos branch.polys branch.zero (one ring ∷ []) ok.polys ok.zero i.vanish
          ((one_canonical ring field.two, basis.members.0), tt) (specialised ring a (one ring))
          (generator_member (variables_ring ring) (specialised_list ring a (one ring ∷ [])) pos 0 (omega arith)
          (of_ring_at (variables_ring ring) (specialised_list ring a (one ring ∷ []))
          (specials_canonical ring a pos (one ring ∷ []) (one_canonical ring field.two, tt)) 0 (omega arith)))

  -- the node of a good branch is sound
  pub node_sound : (branch : Case) (path : List ℕ) (own : List Entry) (children : List Case) → IsBranch ring branch → IsGood ring branch
      → IsNode ring branch path own children → IsSoundNode ring branch own children
  node_sound branch path own children ok good n = record {
    once = λ a point. node_count a point branch ok path own children n;
    bases = node_based branch ok good path own children n;
    below = node_below branch ok path own children n;
  }

  -- at each point of an entry its basis is one of what the root's polynomials become

  module _ (F : List (List Term)) where
    -- a good branch that generates the ideal of F at each point of its region
    pub record IsOf (branch : Case) : Type 0 where
      pub valid : IsBranch ring branch
      pub good : IsGood ring branch
      pub ideal : (a : List ℕ) → IsPoint ring a → IsPointOf ring a branch → SameIdealAt ring a branch.polys F

    children_of_root : (branch : Case) → IsOf branch → (path : List ℕ) (own : List Entry) (children : List Case) → IsNode ring branch path own children
        → AllByRecursion IsOf children
    children_of_root branch h path own children n =
        all_weaker (λ c. IsSoundChild ring branch c × ((a : List ℕ) → IsPoint ring a → IsPointOf ring a c → IsPointOf ring a branch)) IsOf children
        (branch_both (IsSoundChild ring branch) (λ c. (a : List ℕ) → IsPoint ring a → IsPointOf ring a c → IsPointOf ring a branch) children
        (node_below branch h.valid path own children n)
        (all_points (λ a. IsPoint ring a) (λ a c. IsPointOf ring a c → IsPointOf ring a branch) children
        (λ a point. child_inside a point branch h.valid path own children n)))
        (λ c s. record {
          valid = s.0.valid;
          good = s.0.good;
          ideal = λ a point k.
              same_ideal_trans (variables_ring ring) (specialised_list ring a c.polys) (specialised_list ring a branch.polys) (specialised_list ring a F)
              (s.0.ideal a k) (h.ideal a point (s.1 a point k));
        })

    -- an entry with the branch's conditions that is sound for the branch's polynomials is so for F
    moved : (branch : Case) → IsOf branch → (path : List ℕ) (kind : EntryKind) → IsSound ring branch.polys (entry_of branch path kind)
        → IsSound ring F (entry_of branch path kind)
    moved branch h path (Refused cause) s = record { zero = s.zero; nonzero = s.nonzero; serves = tt }
    moved branch h path (Solved basis tested) s = record {
      zero = s.zero;
      nonzero = s.nonzero;
      serves = record {
        canonical = s.serves.canonical;
        at = λ a point i. basis_of_same ring a branch.polys F basis (h.ideal a point i) (s.serves.at a point i);
      };
    }

    own_based : (branch : Case) → IsOf branch → (path : List ℕ) (own : List Entry) (children : List Case) → IsNode ring branch path own children
        → AllByRecursion (IsSound ring F) own
    own_based branch h path own children (empty k) = tt
    own_based branch h path own children (refused k cause) =
        let b = node_based branch h.valid h.good path (entry_of branch path (Refused cause) ∷ []) [] (refused k cause) in
        (moved branch h path (Refused cause) b.0, tt)
    own_based branch h path own children (divided k G M basis) = tt
    own_based branch h path own children (solved k tested) =
        let b = node_based branch h.valid h.good path (entry_of branch path (Solved branch.polys tested) ∷ []) [] (solved k tested) in
        (moved branch h path (Solved branch.polys tested) b.0, tt)
    own_based branch h path own children (whole k basis tested) =
        let b = node_based branch h.valid h.good path (entry_of branch path (Solved (one ring ∷ []) tested) ∷ []) [] (whole k basis tested) in
        (moved branch h path (Solved (one ring ∷ []) tested) b.0, tt)

    trees_based : (branches : List Case) (entries : List Entry) → AreTreesOf ring branches entries → AllByRecursion IsOf branches
        → AllByRecursion (IsSound ring F) entries
    trees_based branches entries none h = tt
    trees_based branches entries (tree branch path children others own below rest n t u) h =
        all_append (IsSound ring F) (own ++ below) rest
        (all_append (IsSound ring F) own below (own_based branch h.0 path own children n)
        (trees_based children below t (children_of_root branch h.0 path own children n)))
        (trees_based others rest u h.1)

  -- the whole

  module _ (limits : Limits) (zero nonzero polys : List (List Term)) (zero_ok : AllByRecursion (IsParametric ring) zero)
      (nonzero_ok : AllByRecursion (IsParametric ring) nonzero) (polys_ok : AllByRecursion (IsCanonical ring) polys) where
    abbrev root : Case
    root = root_case ring limits zero nonzero polys

    conditions_ok : (L : List (List Term)) → AllByRecursion (IsParametric ring) L → AllByRecursion (IsParametric ring) (with_members ring [] L)
    conditions_ok L h = each_with_all ring (IsParametric ring) [] L tt
        (all_weaker (IsParametric ring) (λ f. IsParametric ring (monic_of ring f)) L h (λ f p. monic_parametric ring f pos p))

    canonical_list : (L : List (List Term)) → AllByRecursion (IsParametric ring) L → AllByRecursion (IsCanonical ring) L
    canonical_list L h = all_weaker (IsParametric ring) (IsCanonical ring) L h (λ f p. p.canonical)

    pub root_valid : IsBranch ring root
    root_valid = record { of = refl; zero = conditions_ok zero zero_ok; nonzero = conditions_ok nonzero nonzero_ok; polys = polys_ok }

    root_point : (a : List ℕ) → is_point_of ring a root ≡ is_in_region ring zero nonzero a
    root_point a = cc (
      all_with_all ring a field [] zero (canonical_list zero zero_ok),
      none_with_all ring a field [] nonzero (canonical_list nonzero nonzero_ok),
    )

    -- the list of a tree is comprehensive
    pub tree_comprehensive : (entries : List Entry) → AreTreesOf ring (root ∷ []) entries → IsComprehensive ring zero nonzero polys entries
    tree_comprehensive entries t = record {
      cover = λ a point. trees_count a point (root ∷ []) entries t (root_valid, tt)
          ∙ (add-zero (cond (is_point_of ring a root) 1 0) ∙ ap (λ b. cond b 1 0) (root_point a));
      sound = trees_based polys (root ∷ []) entries t
          (record { valid = root_valid; good = inl refl; ideal = λ a point h. record { first = λ f m. m; second = λ f m. m } }, tt);
    }
