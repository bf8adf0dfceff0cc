-- What the passes of the check found, said of the rules.
use Rattle.std.proofs.Common.{◌≡◌, ◌≢◌, ◌∙◌, inl, inr, ℕ, zero, suc, ◌<◌, ◌≤◌, List, length, refl, sym, ap, subst, arith, Option, Some, None, Result, Err}
use Rattle.std.specs.Prelude.{slice_get, IfSome, IfNone}
use Rattle.std.specs.declared.cmp.Ordering.{Ordering}
use Rattle.std.specs.declared.cmp.Ordering.TheVariants.{Less, Greater}
use Rattle.tc_base.specs.declared.kind.Rule.{Rule}
use Rattle.hf_head.specs.declared.head.Head.{Head}
use Rattle.hf_head.specs.Heads.{IsValid, unit}
use Rattle.hf_block.specs.declared.walking.WalkErr.{WalkErr}
use Rattle.hf_block.specs.declared.walking.WalkErr.TheVariants.{Broken}
use Rattle.hf_block.specs.Pieces.{Record, Piece}
use Rattle.hf_layout.specs.Layout.{record_at}
use Rattle.hf_tree.specs.Links.{links_of}
use Rattle.hf_tree.specs.Keys.{key_cmp}
use Rattle.hf_tree.specs.Rules.{ReachedOnce, AreAtHome, AreInOrder, rule_l}
use Rattle.hf_tree.specs.Standing.{count_of}
use Rattle.hf_tree.proofs.Ways.{all_hang, AreShort}
use Rattle.hf_survey.specs.declared.facts.Fact.{Fact}
use Rattle.hf_survey.specs.declared.reaching.Item.{Item}
use Rattle.hf_survey.specs.Facts.{fact_of, AreFacts, HasFacts, spot, place_in}
use Rattle.hf_survey.specs.Reaching.{Reached, seen, all_seen, AreLow, Fit, IsNotOnce, IsWholeReach, IsHomeBy, IsAtHome, IsBetween}
use Rattle.hf_survey.specs.declared.judging.Verdict.{Verdict}
use Rattle.hf_survey.specs.declared.judging.Verdict.TheVariants.{InOrder, Stray, Mixed}
use Rattle.hf_survey.specs.Orders.{key_in, ComparesBy, IsBetweenBy, Judged, Refutes}
use Rattle.hf_survey.specs.Holding.{AllHold, Breaks}
use Rattle.hf_chain.proofs.Fronts.{key_at, stands}
use Rattle.hf_survey.proofs.FactRows.{facts_count}
use Rattle.hf_survey.proofs.Named.{bare, low_record, fact_at}
use Rattle.hf_survey.proofs.Lists.{get_low, same_item, get_map, got_map}
use Rattle.hf_survey.proofs.Steps.{known, facts_once}
use Rattle.hf_survey.proofs.Followed.{reached_once, all_home, not_home, all_ordered, not_ordered}

-- the key that a record's fact speaks of
pub key_is : (h : Head) (ps : List Piece) (bytes : List ℕ) (facts : List Fact) (p : ℕ) (r : Record) → AreFacts h ps bytes facts → record_at h.first ps p ≡ Some r → key_in (fact_of h p r) bytes ≡ r.key
key_is h ps bytes facts p r a at = key_at (unit h) r p bytes (stands h h.size ps bytes p r a.has at).is

module _ (h : Head) (ps : List Piece) (bytes : List ℕ) (facts : List Fact) (items : List Item) (v : IsValid h) (a : AreFacts h ps bytes facts) (fit : Fit (links_of h ps bytes) (record_at h.first ps) h.buckets facts) (w : IsWholeReach (links_of h ps bytes) (record_at h.first ps) h.buckets (all_seen facts items)) (lows : AreLow (length facts) items) where
  pub once_short : ReachedOnce (links_of h ps bytes) (record_at h.first ps) h.buckets × AreShort (links_of h ps bytes) (record_at h.first ps) h.buckets (length (all_seen facts items))
  once_short = reached_once (links_of h ps bytes) (record_at h.first ps) h.buckets (all_seen facts items) w.is.done w.is.is (bare h ps bytes facts v a) w.is.all w.whole

  -- the fact with a number is that of the record at its place
  numbered : (m : ℕ) (r : Record) (i : ℕ) → m ≡ suc i → record_at h.first ps (spot facts m) ≡ Some r → m ≤ length facts → slice_get facts i ≡ Some (fact_of h (spot facts m) r)
  numbered m r i is at low =
      let k = known facts m (omega (arith, is)) low in
      let e : k.i ≡ i = omega (arith, is, k.is) in
      let g = fact_at h ps bytes facts v a (spot facts m) r at in
      let f : k.i ≡ g.0 = facts_once facts k.i g.0 k.x (fact_of h (spot facts m) r) fit.ascend k.at g.1 (sym k.place) in
      ap (slice_get facts) (sym e ∙ f) ∙ g.1

  -- ---- at home

  home_by : (x : Item) → (0 < x.number) → x.number ≤ length facts → IsHomeBy facts x → IsAtHome (record_at h.first ps) h.buckets (seen facts x)
  home_by x some low home r at =
      let k = known facts x.number some low in
      home k.i (fact_of h (spot facts x.number) r) k.is (numbered x.number r k.i k.is at low)

  by_home : (x : Item) → (0 < x.number) → x.number ≤ length facts → IsAtHome (record_at h.first ps) h.buckets (seen facts x) → IsHomeBy facts x
  by_home x some low home i f is at =
      let k = known facts x.number some low in
      let r = fit.to i f at in
      let place : spot facts x.number ≡ f.place = ap (spot facts) is ∙ ap place_in at in
      let atr = ap (record_at h.first ps) place ∙ r.1 in
      let same : f ≡ fact_of h (spot facts x.number) r.0 = same_item (slice_get facts i) f (fact_of h (spot facts x.number) r.0) at (numbered x.number r.0 i is atr low) in
      let g = home r.0 atr in
      (ap (λ (z : Fact). z.bucket) same ∙ g.0, ap (λ (z : Fact). z.hash) same ∙ g.1 ∙ sym (ap (λ (z : Fact). z.second) same))

  pub homes : ((k : ℕ) (x : Item) → slice_get items k ≡ Some x → IsHomeBy facts x) → AreAtHome (links_of h ps bytes) (record_at h.first ps) h.buckets
  homes all = all_home (links_of h ps bytes) (record_at h.first ps) h.buckets (all_seen facts items) w.is.done w.is.is (bare h ps bytes facts v a) w.is.all (λ i y at.
      let g = got_map (seen facts) items i y at in
      let l = lows i g.0 g.1 in
      subst (λ (z : Reached). IsAtHome (record_at h.first ps) h.buckets z) (sym g.2) (home_by g.0 l.0 l.1 (all i g.0 g.1)))

  pub home_broken : (k : ℕ) (x : Item) → slice_get items k ≡ Some x → (IsHomeBy facts x → ⊥) → Breaks h ps bytes (rule_l 6)
  home_broken k x at bad = inr (fit.names, inr (once_short.0, inl (refl, not_home (links_of h ps bytes) (record_at h.first ps) h.buckets (all_seen facts items) h.buckets w.is.done k (seen facts x) w.is.is (get_map (seen facts) items k x at) (λ home. let l = lows k x at in bad (by_home x l.0 l.1 home)))))

  -- ---- in order

  compares_to : (x : ℕ) (r : Record) (m : ℕ) (o : Ordering) → record_at h.first ps x ≡ Some r → m ≤ length facts → ComparesBy facts (fact_of h x r) m o bytes → (s : Record) → record_at h.first ps (spot facts m) ≡ Some s → key_cmp r.key s.key ≡ o
  compares_to x r zero o at low all s ats = absurd (let l = low_record h ps bytes facts v a 0 (s, ats) in omega (arith, l.0))
  compares_to x r (suc j) o at low all s ats =
      (λ i. key_cmp (sym (key_is h ps bytes facts x r a at) i) (sym (key_is h ps bytes facts (spot facts (suc j)) s a ats) i)) ∙ all j (fact_of h (spot facts (suc j)) s) refl (numbered (suc j) s j refl ats low)

  compares_by : (x : ℕ) (r : Record) (m : ℕ) (o : Ordering) → record_at h.first ps x ≡ Some r → m ≤ length facts → ((s : Record) → record_at h.first ps (spot facts m) ≡ Some s → key_cmp r.key s.key ≡ o) → ComparesBy facts (fact_of h x r) m o bytes
  compares_by x r m o at low all j b is atb =
      let t = fit.to j b atb in
      let place : spot facts m ≡ b.place = ap (spot facts) is ∙ ap place_in atb in
      let ats = ap (record_at h.first ps) place ∙ t.1 in
      let same : b ≡ fact_of h (spot facts m) t.0 = same_item (slice_get facts j) b (fact_of h (spot facts m) t.0) atb (numbered m t.0 j is ats low) in
      (λ i. key_cmp (key_is h ps bytes facts x r a at i) ((ap (λ (z : Fact). key_in z bytes) same ∙ key_is h ps bytes facts (spot facts m) t.0 a ats) i)) ∙ all t.0 ats

  between_by : (x : Item) → (0 < x.number) × (x.number ≤ length facts) × (x.above ≤ length facts) × (x.below ≤ length facts) → IsBetweenBy facts x bytes → IsBetween (record_at h.first ps) (seen facts x)
  between_by x l all r at =
      let k = known facts x.number l.0 l.1 in
      let b = all k.i (fact_of h (spot facts x.number) r) k.is (numbered x.number r k.i k.is at l.1) in
      (compares_to (spot facts x.number) r x.above Greater at l.2 b.0, compares_to (spot facts x.number) r x.below Less at l.3 b.1)

  by_between : (x : Item) → (0 < x.number) × (x.number ≤ length facts) × (x.above ≤ length facts) × (x.below ≤ length facts) → IsBetween (record_at h.first ps) (seen facts x) → IsBetweenBy facts x bytes
  by_between x l all i f is atf =
      let t = fit.to i f atf in
      let place : spot facts x.number ≡ f.place = ap (spot facts) is ∙ ap place_in atf in
      let at = ap (record_at h.first ps) place ∙ t.1 in
      let same : f ≡ fact_of h (spot facts x.number) t.0 = same_item (slice_get facts i) f (fact_of h (spot facts x.number) t.0) atf (numbered x.number t.0 i is at l.1) in
      let b = all t.0 at in
      (subst (λ (z : Fact). ComparesBy facts z x.above Greater bytes) (sym same) (compares_by (spot facts x.number) t.0 x.above Greater at l.2 b.0), subst (λ (z : Fact). ComparesBy facts z x.below Less bytes) (sym same) (compares_by (spot facts x.number) t.0 x.below Less at l.3 b.1))

  pub ordered : ((k : ℕ) (x : Item) → slice_get items k ≡ Some x → IsBetweenBy facts x bytes) → AreInOrder (links_of h ps bytes) (record_at h.first ps) h.buckets
  ordered all = all_ordered (links_of h ps bytes) (record_at h.first ps) h.buckets (all_seen facts items) w.is.done w.is.is (bare h ps bytes facts v a) w.is.all (λ i y at.
      let g = got_map (seen facts) items i y at in
      subst (λ (z : Reached). IsBetween (record_at h.first ps) z) (sym g.2) (between_by g.0 (lows i g.0 g.1) (all i g.0 g.1)))

  module _ (home : AreAtHome (links_of h ps bytes) (record_at h.first ps) h.buckets) where
    pub order_broken : (k : ℕ) (x : Item) → slice_get items k ≡ Some x → (IsBetweenBy facts x bytes → ⊥) → Breaks h ps bytes (rule_l 7)
    order_broken k x at bad = inr (fit.names, inr (once_short.0, inr (home, inl (refl, not_ordered (links_of h ps bytes) (record_at h.first ps) h.buckets (all_seen facts items) h.buckets w.is.done k (seen facts x) w.is.is (bare h ps bytes facts v a) (get_map (seen facts) items k x at) (λ between. bad (by_between x (lows k x at) between))))))

    count_is : length facts ≡ count_of ps
    count_is = ap length a.is ∙ facts_count h h.first ps

    pub count_broken : AreInOrder (links_of h ps bytes) (record_at h.first ps) h.buckets → length facts ≢ h.records → Breaks h ps bytes (rule_l 8)
    count_broken order ne = inr (fit.names, inr (once_short.0, inr (home, inr (order, refl, λ e. ne (count_is ∙ sym e)))))

    pub all_hold : AreInOrder (links_of h ps bytes) (record_at h.first ps) h.buckets → length facts ≡ h.records → AllHold h ps bytes
    all_hold order count = record {
      names = fit.names;
      once = once_short.0;
      home = home;
      order = order;
      count = sym count ∙ count_is;
      hang = (_, all_hang (links_of h ps bytes) (record_at h.first ps) h.buckets (length (all_seen facts items)) (bare h ps bytes facts v a) once_short.1 fit.names once_short.0 home order);
    }

  -- ---- by what was found

  module _ (tells : Type 0) (verdict : Verdict) (j : Judged tells facts items (length items) bytes verdict) (t : tells) where
    found_home : (verdict ≢ Stray) → AreAtHome (links_of h ps bytes) (record_at h.first ps) h.buckets
    found_home ne = homes (λ k x at. j.home ne k x (get_low items k x at) at)

    found_order : verdict ≡ InOrder → AreInOrder (links_of h ps bytes) (record_at h.first ps) h.buckets
    found_order is = ordered (λ k x at. j.between is t k x (get_low items k x at) at)

    not_stray : (v : Verdict) → verdict ≡ v → v ≢ Stray → verdict ≢ Stray
    not_stray v is ne e = ne (sym is ∙ e)

    pub judged_hold : verdict ≡ InOrder → length facts ≡ h.records → AllHold h ps bytes
    judged_hold is count = all_hold (found_home (not_stray InOrder is (λ e. cc))) (found_order is) count

    pub judged_broken : (rule : Rule) → Refutes verdict (length facts) h.records rule → Breaks h ps bytes rule
    judged_broken rule (inl o) = let n = j.stray o.0 in subst (λ (r : Rule). Breaks h ps bytes r) (sym o.1) (home_broken n.0 n.1 n.2 n.3)
    judged_broken rule (inr (inl o)) = let n = j.mixed o.0 t in subst (λ (r : Rule). Breaks h ps bytes r) (sym o.1) (order_broken (found_home (not_stray Mixed o.0 (λ e. cc))) n.0 n.1 n.2 n.3)
    judged_broken rule (inr (inr o)) = subst (λ (r : Rule). Breaks h ps bytes r) (sym o.2) (count_broken (found_home (not_stray InOrder o.0 (λ e. cc))) (found_order o.0) o.1)

pub same_rule : {T : Type 0} (a b : Rule) → ◌≡◌ {A = Result T WalkErr} (Err (Broken a)) (Err (Broken b)) → a ≡ b
same_rule a b e = cc

pub some_of : {A : Type 0} (o : Option A) (x : A) (P : A → Type 0) → o ≡ Some x → IfSome o P → P x
some_of o x P is h = subst (λ (z : Option _). IfSome z P) is h

pub none_of : {A : Type 0} (o : Option A) (P : Type 0) → o ≡ None → IfNone o P → P
none_of o P is h = subst (λ (z : Option _). IfNone z P) is h

-- the blocks of a file with these facts begin inside it
pub facts_inside : (h : Head) (bytes : List ℕ) (facts : List Fact) → HasFacts h bytes facts → h.first ≤ length bytes
facts_inside h bytes facts w = omega (arith, w.is.has.on, w.is.has.within)

-- ---- of a space that reads as it did

pub facts_at_now : (h : Head) (facts : List Fact) (now old : List ℕ) → now ≡ old → HasFacts h old facts → HasFacts h now facts
facts_at_now h facts now old e w = subst (λ (l : List ℕ). HasFacts h l facts) (sym e) w

abbrev pub LinkBrokenOf : Head → List Fact → Rule → List ℕ → Type 0
LinkBrokenOf h facts rule bytes = (ps : List Piece) → AreFacts h ps bytes facts → IsNotOnce (links_of h ps bytes) (record_at h.first ps) h.buckets → Breaks h ps bytes rule

pub link_broken_at : (h : Head) (facts : List Fact) (rule : Rule) (now old : List ℕ) → now ≡ old → LinkBrokenOf h facts rule now → LinkBrokenOf h facts rule old
link_broken_at h facts rule now old e w = subst (λ (l : List ℕ). LinkBrokenOf h facts rule l) e w

abbrev pub AllHoldOf : Head → List Fact → List ℕ → Type 0
AllHoldOf h facts bytes = (ps : List Piece) → AreFacts h ps bytes facts → AllHold h ps bytes

pub all_hold_at : (h : Head) (facts : List Fact) (now old : List ℕ) → now ≡ old → AllHoldOf h facts now → AllHoldOf h facts old
all_hold_at h facts now old e w = subst (λ (l : List ℕ). AllHoldOf h facts l) e w

abbrev pub AllBrokenOf : Head → List Fact → Rule → List ℕ → Type 0
AllBrokenOf h facts rule bytes = (ps : List Piece) → AreFacts h ps bytes facts → Breaks h ps bytes rule

pub all_broken_at : (h : Head) (facts : List Fact) (rule : Rule) (now old : List ℕ) → now ≡ old → AllBrokenOf h facts rule now → AllBrokenOf h facts rule old
all_broken_at h facts rule now old e w = subst (λ (l : List ℕ). AllBrokenOf h facts rule l) e w
