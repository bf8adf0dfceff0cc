-- Links that name records, said of the file.
use Rattle.std.proofs.Common.{◌≡◌, ◌∙◌, ◌⊎◌, inl, inr, ℕ, zero, suc, ◌*◌, ◌^◌, ◌<◌, ◌≤◌, List, length, refl, sym, ap, subst, arith, Option, Some}
use Rattle.std.specs.Prelude.{slice_get}
use Rattle.hf_head.specs.declared.head.Head.{Head}
use Rattle.hf_head.specs.Heads.{IsValid, unit}
use Rattle.hf_block.specs.Pieces.{Record, Piece}
use Rattle.hf_layout.specs.Layout.{record_at}
use Rattle.hf_tree.specs.declared.parent.Parent.{Parent}
use Rattle.hf_tree.specs.declared.parent.Parent.TheVariants.{Bucket, Left, Right}
use Rattle.hf_tree.specs.Links.{links_of, left_of, right_of, entry_at, width}
use Rattle.hf_tree.specs.Rules.{IsRecord, NamesRecords}
use Rattle.hf_tree.proofs.Fields.{record_lies, is_bare, sections_first}
use Rattle.hf_tree.proofs.Ways.{IsBare}
use Rattle.hf_survey.specs.declared.facts.Fact.{Fact}
use Rattle.hf_chain.specs.Heads.{capped}
use Rattle.hf_survey.specs.Facts.{fact_of, AreFacts, Ascend, IsListedAt, Names, AllNamed, HasBadChain, entry_place, spot, place_in}
use Rattle.hf_survey.specs.Reaching.{AreRead, Fit}
use Rattle.hf_survey.specs.Orders.{AreTrue}
use Rattle.hf_chain.proofs.Descents.{entry_is}
use Rattle.hf_chain.proofs.Fronts.{stands}
use Rattle.hf_survey.proofs.FactRows.{facts_rise, fact_record, record_fact}
use Rattle.hf_survey.proofs.Lists.{get_some}

-- a number of a record names it, and 0 names none
pub spot_names : (facts : List Fact) (m : ℕ) → m ≤ length facts → Names facts (spot facts m)
spot_names facts zero low = inl refl
spot_names facts (suc i) low = let w = get_some facts i (omega (arith, low)) in inr (i, w.0, w.1, sym (ap place_in w.1))

pub names_at : (facts : List Fact) (m p : ℕ) → m ≤ length facts → spot facts m ≡ p → Names facts p
names_at facts m p low is = subst (λ z. Names facts z) is (spot_names facts m low)

module _ (h : Head) (ps : List Piece) (bytes : List ℕ) (facts : List Fact) (v : IsValid h) (a : AreFacts h ps bytes facts) where
  got : (i : ℕ) (x : Fact) → slice_get facts i ≡ Some x → (r : Record) × (record_at h.first ps x.place ≡ Some r) × (x ≡ fact_of h x.place r)
  got i x at = fact_record h (unit h) h.first ps i x a.has.filled.whole (ap (λ (l : List Fact). slice_get l i) (sym a.is) ∙ at)

  pub ascending : Ascend facts
  ascending = subst Ascend (sym a.is) (facts_rise h (unit h) h.first ps a.has.filled.whole)

  pub are_true : AreTrue h facts bytes
  are_true i x at = let w = got i x at in record { r = w.0; has = stands h h.size ps bytes x.place w.0 a.has w.1; is = w.2 }

  pub bare : IsBare (links_of h ps bytes) (record_at h.first ps)
  bare = is_bare h h.size ps bytes v a.has

  pub low_record : (p : ℕ) → IsRecord (record_at h.first ps) p → (0 < p) × (p ≤ 2 ^ 40)
  low_record p w = let l = record_lies h h.size ps bytes p w.0 a.has w.1 in (omega (arith, l.low, sections_first h v), omega (arith, l.high, v.numbers.size_most))

  pub listed_record : (p : ℕ) → IsListedAt facts p → IsRecord (record_at h.first ps) p
  listed_record p w = let g = got w.0 w.1 w.2 in subst (λ z. IsRecord (record_at h.first ps) z) w.3 (g.0, g.1)

  pub record_listed : (p : ℕ) → IsRecord (record_at h.first ps) p → IsListedAt facts p
  record_listed p w = let k = record_fact h h.first ps p w.0 w.1 in (k.0, fact_of h p w.0, ap (λ (l : List Fact). slice_get l k.0) a.is ∙ k.1, refl)

  -- the fact of a record
  pub fact_at : (p : ℕ) (r : Record) → record_at h.first ps p ≡ Some r → (i : ℕ) × (slice_get facts i ≡ Some (fact_of h p r))
  fact_at p r at = let k = record_fact h h.first ps p r at in (k.0, ap (λ (l : List Fact). slice_get l k.0) a.is ∙ k.1)

  abbrev Links_to : ℕ → Type 0
  Links_to n = (n ≡ 0) ⊎ IsRecord (record_at h.first ps) n

  capped_is : (n : ℕ) → Links_to n → capped n ≡ n
  capped_is n (inl z) = omega (arith, z)
  capped_is n (inr w) = let l = low_record n w in omega (arith, l.1)

  link_from : (n : ℕ) → Names facts (capped n) → Links_to n
  link_from n (inl z) = inl (omega (arith, z))
  link_from n (inr w) =
      let r = listed_record (capped n) w in
      let l = low_record (capped n) r in
      let e : capped n ≡ n = omega (arith, l.1) in
      inr (subst (λ z. IsRecord (record_at h.first ps) z) e r)

  link_to : (n : ℕ) → Links_to n → Names facts (capped n)
  link_to n (inl z) = inl (omega (arith, z))
  link_to n (inr w) = inr (record_listed (capped n) (subst (λ z. IsRecord (record_at h.first ps) z) (sym (capped_is n (inr w))) w))

  left_is : (p : ℕ) (r : Record) → record_at h.first ps p ≡ Some r → links_of h ps bytes (Left p) ≡ unit h * r.left
  unfolding links_of
  left_is p r at = ap (λ (o : Option Record). unit h * left_of o) at

  right_is : (p : ℕ) (r : Record) → record_at h.first ps p ≡ Some r → links_of h ps bytes (Right p) ≡ unit h * r.right
  unfolding links_of
  right_is p r at = ap (λ (o : Option Record). unit h * right_of o) at

  -- both chains of a record name records or none
  chain_from : (n m : ℕ) (c : Parent) → links_of h ps bytes c ≡ n → m ≡ capped n → Names facts m → Links_to (links_of h ps bytes c)
  chain_from n m c is e names = subst (λ z. Links_to z) (sym is) (link_from n (subst (λ z. Names facts z) e names))

  pub names_all : ((b : ℕ) → b < h.buckets → Names facts (entry_place h b bytes)) → AllNamed facts → NamesRecords (links_of h ps bytes) (record_at h.first ps) h.buckets
  names_all entries all (Bucket b) low = chain_from (unit h * entry_at (width h) b bytes) (entry_place h b bytes) (Bucket b) (entry_is h ps bytes b low) refl (entries b low)
  names_all entries all (Left p) w =
      let k = fact_at p w.0 w.1 in
      chain_from (unit h * w.0.left) (capped (unit h * w.0.left)) (Left p) (left_is p w.0 w.1) refl (all k.0 (fact_of h p w.0) k.1).0
  names_all entries all (Right p) w =
      let k = fact_at p w.0 w.1 in
      chain_from (unit h * w.0.right) (capped (unit h * w.0.right)) (Right p) (right_is p w.0 w.1) refl (all k.0 (fact_of h p w.0) k.1).1

  pub bad_entry : (b : ℕ) → b < h.buckets → (Names facts (entry_place h b bytes) → ⊥) → NamesRecords (links_of h ps bytes) (record_at h.first ps) h.buckets → ⊥
  bad_entry b low bad names = bad (link_to (unit h * entry_at (width h) b bytes) (subst (λ z. Links_to z) (entry_is h ps bytes b low) (names (Bucket b) low)))

  pub bad_chain : HasBadChain facts → NamesRecords (links_of h ps bytes) (record_at h.first ps) h.buckets → ⊥
  bad_chain bad names =
      let g = got bad.0 bad.1 bad.2 in
      let p = bad.1.place in
      let l : Names facts (capped (unit h * g.0.left)) = link_to (unit h * g.0.left) (subst (λ z. Links_to z) (left_is p g.0 g.1) (names (Left p) (g.0, g.1))) in
      let r : Names facts (capped (unit h * g.0.right)) = link_to (unit h * g.0.right) (subst (λ z. Links_to z) (right_is p g.0 g.1) (names (Right p) (g.0, g.1))) in
      bad.3 (subst (λ (x : Fact). Names facts x.left) (sym g.2) l, subst (λ (x : Fact). Names facts x.right) (sym g.2) r)

  pub are_read : AreRead (links_of h ps bytes) (record_at h.first ps) facts
  are_read = record {
    ascend = ascending;
    to = λ i x at. (let g = got i x at in (g.0, g.1));
    from = record_listed;
    some = λ p w. (low_record p w).0;
    few = λ p w. (let l = low_record p w in omega (arith, l.1));
    lefts = λ i x at. (let g = got i x at in ap (λ (z : Fact). z.left) g.2 ∙ ap capped (sym (left_is x.place g.0 g.1)));
    rights = λ i x at. (let g = got i x at in ap (λ (z : Fact). z.right) g.2 ∙ ap capped (sym (right_is x.place g.0 g.1)));
  }

  pub fits : NamesRecords (links_of h ps bytes) (record_at h.first ps) h.buckets → Fit (links_of h ps bytes) (record_at h.first ps) h.buckets facts
  fits names = record {
    ascend = ascending;
    to = λ i x at. (let g = got i x at in (g.0, g.1));
    from = record_listed;
    some = λ p w. (low_record p w).0;
    names = names;
    lefts = λ i x at. (let g = got i x at in left_is x.place g.0 g.1 ∙ sym (ap (λ (z : Fact). z.left) g.2 ∙ capped_is (unit h * g.0.left) (subst (λ z. Links_to z) (left_is x.place g.0 g.1) (names (Left x.place) (g.0, g.1)))));
    rights = λ i x at. (let g = got i x at in right_is x.place g.0 g.1 ∙ sym (ap (λ (z : Fact). z.right) g.2 ∙ capped_is (unit h * g.0.right) (subst (λ z. Links_to z) (right_is x.place g.0 g.1) (names (Right x.place) (g.0, g.1)))));
  }

  -- the place that a bucket's entry was read with
  pub entry_read : (b p : ℕ) → b < h.buckets → p ≡ entry_place h b bytes → p ≡ capped (links_of h ps bytes (Bucket b))
  entry_read b p low is = is ∙ ap capped (sym (entry_is h ps bytes b low))
