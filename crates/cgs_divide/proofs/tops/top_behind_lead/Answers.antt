use Rattle.std.proofs.Common.{ℕ, List, ◌≡◌, ◌≤◌, ◌-◌, length, take, drop, ap, ◌∙◌, sym, subst, arith}
use Rattle.std.proofs.lemmas.List.{take_rest}
use Rattle.cgs_list.proofs.ListLemmas.{all_drop, all_weaker}
use Rattle.cgs_poly.specs.Polynomial.{Term}
use Rattle.cgs_poly.specs.Product.{top_degree}
use Rattle.cgs_poly.specs.Merge.{EachTerm}
use Rattle.cgs_divide.proofs.TailLemmas.{slices}
use Rattle.cgs_divide.proofs.tops.top_behind_lead.Goals as goal
use Rattle.cgs_divide.proofs.tops.top_behind_lead.Goals.{After-new-terms}

-- all terms
whole : (c : After-new-terms) → c.new-terms.result ≡ c.args.f.now
whole c = c.new-terms.ensures ∙ rw (c.coefficients.ensures, c.exponents.ensures) (slices c.args.places c.args.f.now c.requires.lengths).1

pub new-terms-requires : goal.new-terms-requires
new-terms-requires c = rw (c.coefficients.ensures, c.exponents.ensures) (record { flat = (slices c.args.places c.args.f.now c.requires.lengths).0 })

pub between-requires-clause-within : goal.between-requires-clause-within
between-requires-clause-within c = omega (arith, c.len.ensures, ap length (whole (goal.at.between-requires-clause-within c).After-new-terms))

-- those behind the lead
behind : (t : After-new-terms) (n : ℕ) (h : List Term) → n ≡ length t.args.f.now → h ≡ take (n - 1) (drop 1 t.new-terms.result) → h ≡ drop 1 t.args.f.now
behind t n h e k =
    k ∙ (ap (λ n. take (n - 1) (drop 1 t.new-terms.result)) e
    ∙ (ap (λ f. take (length t.args.f.now - 1) (drop 1 f)) (whole t) ∙ take_rest t.args.f.now 1))

pub top_degree-requires : goal.top_degree-requires
top_degree-requires c =
    let t = (goal.at.top_degree-requires c).After-new-terms in
    subst (EachTerm (λ d m. length m ≤ 17)) (sym (behind t c.len.result c.between.result c.len.ensures c.between.ensures))
    (all_drop (λ x. length x.exponents ≤ 17) 1 c.args.f.now
    (all_weaker (λ x. length x.exponents ≡ c.args.places) (λ x. length x.exponents ≤ 17) c.args.f.now c.requires.lengths
    (λ x e. omega (arith, e, c.requires.few))))

pub returns : goal.returns
returns c =
    c.top_degree.ensures
    ∙ ap top_degree (behind (goal.at.returns c).After-new-terms c.len.result c.between.result c.len.ensures c.between.ensures)
