-- What a hash file keeps, as the members of a map tell it.
use Rattle.std.proofs.Common.{◌≡◌, ◌∙◌, Bool, ℕ, ◌+◌, ◌<◌, ◌≤◌, [], ◌∷◌, refl, ap, arith, inl, inr, ⊎_elim}
use Rattle.std.proofs.Math.Nat.{div-eq_of_lt}
use Rattle.std.specs.Prelude.{◌-◌, Result, OnOk, OnErr}
use Rattle.tc_base.specs.declared.kind.Form.{Form}
use Rattle.tc_base.specs.declared.kind.Form.TheVariants as forms
use Rattle.tc_space.specs.Stores.{PacksMap, StaysMap, options_in}
use Rattle.tc_space.specs.declared.space.Space.{Ghosts}
use Rattle.tc_hash.specs.declared.hash.Hash.{Hash}
use Rattle.hf_head.specs.declared.head.Head.{Head}
use Rattle.hf_head.specs.Heads.{sections, unit}
use Rattle.tc_hash.specs.Creating.{IsNew}
use Rattle.tc_hash.specs.Keeping.{SameMap, SameShape, StaysOpen, at_most, file_of, gets_of, lead_of, numbers_of, region_of, sort_of}
use Rattle.tc_hash.specs.Packing.{LeavesHead, PacksAs, StaysNumbered, options_for}
use Rattle.tc_hash.specs.Standing.{lead_in, numbers_in}
use Rattle.tc_hash.proofs.Stored.{from_done, from_refused}

pub stays_map : {S : Type 0} (v w : Hash S) → StaysOpen v w → StaysMap file_of sort_of numbers_of region_of lead_of gets_of v w
stays_map v w stays = record {
  file = stays.map.file;
  sort_same = stays.map.sort_same;
  numbers_same = ap numbers_in stays.head;
  region_same = stays.map.region_same;
  leads = at_most (lead_of v) (lead_of w) (ap lead_in stays.head);
  gets_same = stays.map.gets_same;
}

-- of a file that is made anew with the numbers that it has
pub shaped_map : {S : Type 0} (v w : Hash S) → SameMap v w → SameShape v w → StaysMap file_of sort_of numbers_of region_of lead_of gets_of v w
shaped_map v w same shape = record {
  file = same.file;
  sort_same = same.sort_same;
  numbers_same = λ i. shape.options i ∷ shape.apow i ∷ shape.fpow i ∷ shape.buckets i ∷ [];
  region_same = same.region_same;
  leads = shape.leads.most;
  gets_same = same.gets_same;
}

options_same : {S : Type 0} (form : Form) (v : Hash S) → options_for form v ≡ options_in form v.body.head.options
options_same forms.Keep v = refl
options_same forms.Large v = refl

-- none lies free where the first block stands at the least multiple of the unit
within_unit : (first behind unit : ℕ) → behind ≤ first → first < behind + unit → first - behind < unit
within_unit first behind unit le lt = omega (arith, le, lt)

none_less : (a b : ℕ) → a ≡ 0 → a ≤ b
none_less a b none = omega (arith, none)

pub anew_leads : {kind apow fpow buckets : ℕ} {large : Bool} (h : Head) (other : ℕ) → IsNew kind apow fpow buckets large h → lead_in h ≤ other
anew_leads h other new = none_less (lead_in h) other (div-eq_of_lt (within_unit h.first (sections h) (unit h) new.behind new.least))

packed_leads : {S : Type 0} (s : Ghosts S) (form : Form) (v w : Hash S) (a b : S) → PacksAs form s v w a b → lead_of w ≤ lead_of v
packed_leads s form v w a b packs = ⊎_elim (λ moves. at_most (lead_of v) (lead_of w) (ap lead_in moves.head)) (λ anew. anew_leads w.body.head (lead_of v) anew.writes.is_new) packs.fills

pub packs_map : {S T E : Type 0} (s : Ghosts S) (form : Form) (v w : Hash S) (a b : S) (r : Result T E) → StaysNumbered v w → OnOk r (PacksAs form s v w a b) → OnErr r (LeavesHead s v w b) → PacksMap s.flag file_of sort_of numbers_of region_of lead_of gets_of form r v w b
packs_map s form v w a b r stays packs left = record {
  file = stays.map.file;
  sort_same = stays.map.sort_same;
  region_same = stays.map.region_same;
  gets_same = stays.map.gets_same;
  formed = from_done r packs (λ p. λ i. (p.packs.options_is ∙ options_same form v) i ∷ stays.apow i ∷ stays.fpow i ∷ stays.buckets i ∷ []);
  leads = from_done r packs (λ p. packed_leads s form v w a b p);
  left = from_refused r left (λ was. ⊎_elim (λ spoiled. inl spoiled) (λ same. inr (ap numbers_in same)) was);
}
