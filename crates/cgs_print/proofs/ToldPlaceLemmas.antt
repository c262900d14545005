-- A printed text of where points lie is read again.
use Rattle.std.proofs.Common.{◌≡◌, ℕ, List, [], ◌∷◌, ◌++◌, take, drop, length, map, codes, decimal, flat_map, Option, Some, None, refl, sym}
use Rattle.std.proofs.Common.{ap, ◌∙◌, subst, arith, append_assoc, append-nil}
use Rattle.std.proofs.lemmas.List.{length-take, take-take, take_all, drop_all}
use Rattle.cgs_list.proofs.ListLemmas.{all_at, all_take}
use Rattle.cgs_poly.specs.Ring.{Ring}
use Rattle.cgs_poly.specs.Polynomial.{Term, IsRing, IsPoly, ArePolys}
use Rattle.cgs_poly.specs.Parameters.{variables_ring, specialised}
use Rattle.cgs_poly.proofs.MonicLemmas.{monic_poly}
use Rattle.cgs_point.proofs.SpecialiseLemmas.{part_poly}
use Rattle.cgs_entry.specs.declared.conditions.Conditions.{Conditions}
use Rattle.cgs_entry.specs.declared.entry.Entry.{Entry}
use Rattle.cgs_entry.specs.declared.entry.EntryKind.{EntryKind}
use Rattle.cgs_entry.specs.declared.entry.EntryKind.TheVariants.{Solved, Refused}
use Rattle.cgs_entry.specs.Bases.{basis_of}
use Rattle.cgs_entry.specs.Entries.{IsFound}
use Rattle.cgs_locate.specs.declared.search.Located.{Located}
use Rattle.cgs_locate.specs.Located.{monic_at, basis_at, located}
use Rattle.cgs_locate.proofs.LocateLemmas.{found_is_first}
use Rattle.cgs_problem.specs.declared.problem.Problem.{Problem}
use Rattle.cgs_problem.specs.Problems.{IsProblem}
use Rattle.cgs_canonical.specs.Printing.{point_line}
use Rattle.cgs_print.specs.Printing.{head_line}
use Rattle.cgs_print.specs.Locating.{head_if_any, special_lines, place_text, point_text, points_line, located_text}
use Rattle.cgs_print.specs.Telling.{IsPrintable, ArePrintable, Place, place_in, place_found, place_of, PlacesAreTold}
use Rattle.cgs_canonical.proofs.LexemeLemmas.{Passes, passes_append, is_plain}
use Rattle.cgs_canonical.proofs.LineLemmas.{passing}
use Rattle.cgs_canonical.proofs.MonomialLemmas.{AreNew}
use Rattle.cgs_canonical.proofs.ValidLemmas.{spelled_problem}
use Rattle.cgs_print.proofs.ToldPathLemmas.{decimal_plain}
use Rattle.cgs_print.proofs.ToldLineLemmas.{IsNamed, Told, fresh, headed, place_told, line_told, text_told, line_reads, basis_tells}
use Rattle.cgs_print.proofs.ToldListLemmas.{kind_told, head_tells, last_tells, spelled_named}

-- the variables alone have their names
variables_named : (ring : Ring) (names : List (List ℕ)) → IsNamed ring names → IsNamed (variables_ring ring) (take ring.variables names)
variables_named ring names n =
    let v : ℕ = ring.variables in
    let named = n.reader.named in
    let heads : take v (take v names) ≡ take v names = take-take v v names (omega arith) in
    let tails : drop v (take v names) ≡ [] = drop_all v (take v names) (omega (arith, length-take v names)) in
    record {
      modulus = n.modulus;
      words = all_take _ v names n.words;
      reader = record {
        named = omega (arith, length-take v names);
        heads = subst (AreNew []) (sym heads) n.reader.heads;
        tails = subst (AreNew (take v (take v names))) (sym tails) tt;
        barred = omega arith;
        low = omega arith;
      };
    }

-- what a basis becomes at a point

monic_at_poly : (ring : Ring) (point : List ℕ) (f : List Term) → IsRing ring → IsPoly ring f → IsPoly (variables_ring ring) (monic_at ring point f)
monic_at_poly ring point f r h =
    let few : IsRing (variables_ring ring) = record { modulus = r.modulus; some = r.some; variables = r.variables; parameters = omega arith } in
    monic_poly (variables_ring ring) few (specialised ring point f)
    (subst (λ g. IsPoly (variables_ring ring) (specialised ring point g)) (take_all (length f) f (omega arith)) (part_poly ring point f 0 (length f) r h))

basis_at_polys : (ring : Ring) (point : List ℕ) (G : List (List Term)) → IsRing ring → ArePolys ring G → ArePolys (variables_ring ring) (basis_at ring point G)
basis_at_polys ring point [] r h = tt
basis_at_polys ring point (f ∷ G) r h = (monic_at_poly ring point f r h.0, basis_at_polys ring point G r h.1)

found_polys : (ring : Ring) (kind : EntryKind) → IsFound ring kind → ArePolys ring (basis_of kind)
found_polys ring (Solved basis tested) h = h
found_polys ring (Refused cause) h = tt

-- the line of a point

numbers_plain : (point : List ℕ) → Passes is_plain (flat_map (λ n. codes " " ++ decimal n) point)
numbers_plain [] = tt
numbers_plain (n ∷ point) =
    (refl, passes_append is_plain (decimal n) (flat_map (λ n. codes " " ++ decimal n) point) (decimal_plain n) (numbers_plain point))

-- it ends what is told of a place
abbrev placed : Told → Told
placed told = fresh [] (place_told told.entries ∷ told.places)

point_is : (ring : Ring) (names : List (List ℕ)) (point : List ℕ) (told : Told)
    → line_told ring names (codes "point" ++ flat_map (λ n. codes " " ++ decimal n) point) told ≡ placed told
point_is ring names [] told = refl
point_is ring names (n ∷ point) told = refl

point_tells : (ring : Ring) (names : List (List ℕ)) (point rest : List ℕ)
    → text_told ring names (point_line point ++ rest) ≡ placed (text_told ring names rest)
point_tells ring names point rest =
    line_reads ring names (codes "point" ++ flat_map (λ n. codes " " ++ decimal n) point) rest
    (passes_append is_plain (codes "point") (flat_map (λ n. codes " " ++ decimal n) point) (passing is_plain (codes "point") refl) (numbers_plain point))
    ∙ point_is ring names point (text_told ring names rest)

-- the place of a point

module _ (problem : Problem) (valid : IsProblem problem) (n : IsNamed problem.ring problem.names) where
  abbrev told_by : List ℕ → Told
  told_by text = text_told (variables_ring problem.ring) (take problem.ring.variables problem.names) text

  placed_is : (ring : Ring) (point path : List ℕ) (conditions : Conditions) (kind : EntryKind) (places : List (Option Place))
      → placed (let told = record (fresh [] places) { basis = basis_at ring point (basis_of kind) } in headed told path (kind_told kind told))
      ≡ fresh [] (place_in ring point (Some (record { path = path; conditions = conditions; kind = kind })) ∷ places)
  placed_is ring point path conditions (Solved basis tested) places = refl
  placed_is ring point path conditions (Refused cause) places = refl

  found_entry_tells : (entry : Entry) (point rest : List ℕ) (places : List (Option Place)) → IsPrintable problem.ring entry → told_by rest ≡ fresh [] places
      → placed (told_by (head_line entry ++ special_lines problem (basis_at problem.ring point (basis_of entry.kind)) ++ rest))
      ≡ fresh [] (place_in problem.ring point (Some entry) ∷ places)
  found_entry_tells entry point rest places h e =
      let few : Ring = variables_ring problem.ring in
      let names : List (List ℕ) = take problem.ring.variables problem.names in
      let basis : List (List Term) = basis_at problem.ring point (basis_of entry.kind) in
      let lines : List ℕ = special_lines problem basis in
      let polys : ArePolys few basis =
      basis_at_polys problem.ring point (basis_of entry.kind) valid.ring (found_polys problem.ring entry.kind h.of_ring.found) in
      let told : told_by (lines ++ rest) ≡ record (fresh [] places) { basis = basis } =
      basis_tells few names basis rest (variables_named problem.ring problem.names n) polys
      ∙ ap (λ (told : Told). record told { basis = basis ++ told.basis }) e
      ∙ ap (λ all. record (fresh [] places) { basis = all }) (append-nil basis) in
      ap (λ text. placed (told_by text)) (append_assoc (head_line entry) lines rest)
      ∙ ap placed (head_tells few names entry.path entry.conditions entry.kind (lines ++ rest) h.path)
      ∙ ap (λ (told : Told). placed (headed told entry.path (kind_told entry.kind told))) told
      ∙ placed_is problem.ring point entry.path entry.conditions entry.kind places

  found_tells : (entries : List Entry) (point rest : List ℕ) (places : List (Option Place)) (found : Located) → ArePrintable problem.ring entries
      → located problem.ring point entries ≡ Some found → told_by rest ≡ fresh [] places
      → placed (told_by (place_text problem entries (Some found) ++ rest)) ≡ fresh [] (place_found problem.ring point entries (Some found) ∷ places)
  found_tells entries point rest places found h e told =
      let first = found_is_first problem.ring entries point found e in
      let entry : Entry = first.lies.entry in
      let printable : IsPrintable problem.ring entry = all_at (IsPrintable problem.ring) entries found.index entry h first.lies.at in
      ap (λ at. placed (told_by (head_if_any at ++ special_lines problem found.basis ++ rest))) first.lies.at
      ∙ ap (λ basis. placed (told_by (head_line entry ++ special_lines problem basis ++ rest))) first.basis
      ∙ found_entry_tells entry point rest places printable told
      ∙ ap (λ at. fresh [] (place_in problem.ring point at ∷ places)) (sym first.lies.at)

  place_tells : (entries : List Entry) (point rest : List ℕ) (places : List (Option Place)) (found : Option Located) → ArePrintable problem.ring entries
      → located problem.ring point entries ≡ found → told_by rest ≡ fresh [] places
      → placed (told_by (place_text problem entries found ++ rest)) ≡ fresh [] (place_found problem.ring point entries found ∷ places)
  place_tells entries point rest places None h e told =
      ap placed (line_reads (variables_ring problem.ring) (take problem.ring.variables problem.names) (codes "nowhere") rest
      (passing is_plain (codes "nowhere") refl) ∙ told)
  place_tells entries point rest places (Some found) h e told = found_tells entries point rest places found h e told

  points_tell : (entries : List Entry) (points : List (List ℕ)) (rest : List ℕ) → ArePrintable problem.ring entries → told_by rest ≡ fresh [] []
      → told_by (flat_map (point_text problem entries) points ++ rest) ≡ fresh [] (map (place_of problem.ring entries) points)
  points_tell entries [] rest h e = e
  points_tell entries (point ∷ points) rest h e =
      let found : Option Located = located problem.ring point entries in
      let place : List ℕ = place_text problem entries found in
      let more : List ℕ = flat_map (point_text problem entries) points ++ rest in
      ap told_by (append_assoc (point_text problem entries point) (flat_map (point_text problem entries) points) rest
      ∙ append_assoc (point_line point) place more)
      ∙ point_tells (variables_ring problem.ring) (take problem.ring.variables problem.names) point (place ++ more)
      ∙ place_tells entries point more (map (place_of problem.ring entries) points) found h refl (points_tell entries points rest h e)

  number_tells : (count : ℕ) → told_by (points_line count) ≡ fresh [] []
  number_tells count =
      last_tells (variables_ring problem.ring) (take problem.ring.variables problem.names) (codes "points " ++ decimal count)
      (passes_append is_plain (codes "points ") (decimal count) (passing is_plain (codes "points ") refl) (decimal_plain count)) (λ told. refl)

  places_tell : (entries : List Entry) → ArePrintable problem.ring entries
      → told_by (located_text problem entries) ≡ fresh [] (map (place_of problem.ring entries) problem.points)
  places_tell entries h = points_tell entries problem.points (points_line (length problem.points)) h (number_tells (length problem.points))

pub places_are_told : PlacesAreTold
places_are_told bytes problem entries others e h k same =
    let valid : IsProblem problem = spelled_problem bytes problem e in
    let n : IsNamed problem.ring problem.names = spelled_named bytes problem e in
    ap (λ (told : Told). told.places) (sym (places_tell problem valid n entries h) ∙ ap (told_by problem valid n) same ∙ places_tell problem valid n others k)
