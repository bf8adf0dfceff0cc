-- How the file of what is held is laid out.
use Rattle.std.proofs.Common.{◌≡◌, ◌∙◌, Bool, ℕ, zero, suc, ◌<◌, ◌≤◌, ◌==◌, false, List, [], ◌∷◌, ◌++◌, length, take, refl, sym, ap, arith, length-append}
use Rattle.std.proofs.Math.Nat.{div-eq_of_lt}
use Rattle.std.proofs.lemmas.List.{length-replicate, length-take-le}
use Rattle.std.specs.Prelude.{◌-◌, ◌+◌, ◌*◌, ◌/◌, ◌^◌, replicate, Result, Ok, Err, OnOk}
use Rattle.tc_base.specs.Files.{Files}
use Rattle.tc_base.specs.Maps.{Map}
use Rattle.hf_head.specs.declared.head.Head.{Head}
use Rattle.tc_base.specs.declared.kind.Form.{Form}
use Rattle.tc_base.specs.declared.kind.Form.TheVariants as forms
use Rattle.tc_space.specs.Stores.{in_form, options_in}
use Rattle.hf_head.specs.Heads.{head_in, sections, spelled, unit, wide}
use Rattle.hf_block.specs.Walks.{between}
use Rattle.hf_layout.specs.Frees.{Frees}
use Rattle.hf_pool.specs.Pools.{frees}
use Rattle.hf_tree.specs.Links.{width}
use Rattle.tc_hash.specs.declared.hash.Hash.{Hash}
use Rattle.tc_hash.specs.Creating.{IsNew, new_bytes}
use Rattle.tc_hash.specs.Ending.{free_at_end, free_end, slack_in}
use Rattle.tc_hash.specs.Packing.{Packs, StaysNumbered, options_for}
use Rattle.tc_hash.specs.Settling.{Brought}
use Rattle.tc_hash.specs.Holding.{SameNumbers}
use Rattle.ty_base.specs.Holding.{FormsLayout, IsTrimmed, KeepsLayout, KeepsNumbers, Layout}
use Rattle.tc_hashdb.specs.declared.holding.HashEngine.{HashEngine}
use Rattle.tc_hashdb.specs.Changing.{KeepsHead, no_more}
use Rattle.tc_hashdb.specs.Holding.{HoldsCounted}
use Rattle.tc_hashdb.specs.Layouts.{layout_by, layout_in, layout_of, lead_of, numbers_with}
use Rattle.tc_hashdb.specs.Shapes.{Shaped, usual}

-- a file that is there is laid out as its head says
pub some_layout : (bytes : List ℕ) → 1 ≤ length bytes → layout_in bytes ≡ layout_by (head_in (take 256 bytes)) bytes
some_layout [] some = absurd (omega (arith, some))
some_layout (b ∷ bytes) some = refl

pub same_numbers : (h g : Head) (region : List ℕ) → SameNumbers h g → g.opaque ≡ region → numbers_with g g.opaque ≡ numbers_with h region
same_numbers h g region same shows = λ i. (same.options i ∷ same.apow i ∷ same.fpow i ∷ same.buckets i ∷ []) ++ shows i

pub same_lead : (h g : Head) → SameNumbers h g → lead_of g ≡ lead_of h
same_lead h g same = λ i. (same.first i - (256 + wide (same.options i == 1) * same.buckets i + (64 + 4 * 2 ^ same.fpow i))) / 2 ^ same.apow i

within_unit : (first behind unit : ℕ) → behind ≤ first → first < behind + unit → first - behind < unit
within_unit first behind unit le lt = omega (arith, le, lt)

-- none lies free where the first block stands at the least multiple of the unit
pub no_lead : (h : Head) → sections h ≤ h.first → h.first < sections h + unit h → lead_of h ≡ 0
no_lead h behind least = div-eq_of_lt (within_unit h.first (sections h) (unit h) behind least)

no_less : (a b : ℕ) → a ≡ 0 → a ≤ b
no_less a b none = omega (arith, none)

-- so it is in a file that is made anew, which has no more than another
pub none_leads : {kind apow fpow buckets : ℕ} {large : Bool} (h : Head) (other : ℕ) → IsNew kind apow fpow buckets large h → lead_of h ≤ other
none_leads h other new = no_less (lead_of h) other (no_lead h new.behind new.least)

-- what is held has bytes
pub held_some : {S : Type 0} (e : HashEngine S) (bytes : List ℕ) (m : Map) → HoldsCounted e bytes m → 1 ≤ length bytes
held_some e bytes m h =
    let laid = h.holds_it.map.has.is.laid in
    let front = e.hash.body.valid.numbers.first_behind in
    omega (arith, laid.on, laid.within, front)

pub held_layout : {S : Type 0} (e : HashEngine S) (bytes : List ℕ) (m : Map) → HoldsCounted e bytes m → (layout_in bytes).numbers ≡ numbers_with e.hash.body.head e.hash.region
held_layout e bytes m h = ap (λ (l : Layout). l.numbers) (some_layout bytes (held_some e bytes m h)) ∙ same_numbers e.hash.body.head (head_in (take 256 bytes)) e.hash.region h.holds_it.numbers h.region

pub held_lead : {S : Type 0} (e : HashEngine S) (bytes : List ℕ) (m : Map) → HoldsCounted e bytes m → (layout_in bytes).lead ≡ lead_of e.hash.body.head
held_lead e bytes m h = ap (λ (l : Layout). l.lead) (some_layout bytes (held_some e bytes m h)) ∙ same_lead e.hash.body.head (head_in (take 256 bytes)) h.holds_it.numbers

-- what holds nothing at its end
pub slack_layout : (bytes : List ℕ) → (layout_in bytes).slack ≡ slack_in bytes
slack_layout [] = refl
slack_layout (b ∷ bytes) = refl

-- ---- settled

pub none_behind : (long size : ℕ) → long ≡ size → long - size ≡ 0
none_behind long size same = omega (arith, same)

module _ (h : Head) (end : ℕ) (frees : Frees) (records : ℕ) (region : List ℕ) (m : Map) (bytes : List ℕ) (brought : Brought h end frees records region m bytes) where
  some : 1 ≤ length bytes
  some = let long = brought.stands.is.opens.long in omega (arith, long)

  pub brought_numbers : (layout_in bytes).numbers ≡ numbers_with h region
  brought_numbers = ap (λ (l : Layout). l.numbers) (some_layout bytes some) ∙ ap (λ (g : Head). numbers_with g g.opaque) brought.head

  pub brought_lead : (layout_in bytes).lead ≡ lead_of h
  brought_lead = ap (λ (l : Layout). l.lead) (some_layout bytes some) ∙ ap lead_of brought.head

pub settled_layout : {S : Type 0} (e : HashEngine S) (h : Hash S) (old new : List ℕ) (m : Map) → h.body.head ≡ e.hash.body.head → h.region ≡ e.hash.region → HoldsCounted e old m → Brought h.body.head h.body.pool.size (frees h.body.pool) h.records h.region m new → (layout_in new).slack ≡ 0 → IsTrimmed (layout_in old) (layout_in new)
settled_layout e h old new m head region held brought none =
    let same : numbers_with h.body.head h.region ≡ numbers_with e.hash.body.head e.hash.region = λ i. numbers_with (head i) (region i) in record {
      numbers = record {
        same = brought_numbers h.body.head h.body.pool.size (frees h.body.pool) h.records h.region m new brought ∙ same ∙ sym (held_layout e old m held);
        lead = no_more (layout_in old).lead (layout_in new).lead (brought_lead h.body.head h.body.pool.size (frees h.body.pool) h.records h.region m new brought ∙ ap lead_of head ∙ sym (held_lead e old m held));
      };
      none = none;
    }

-- ---- packed

form_options : {S : Type 0} (form : Form) (h : Hash S) → options_for form h ≡ options_in form h.body.head.options
form_options forms.Keep h = refl
form_options forms.Large h = refl

pub formed_numbers : {S : Type 0} (form : Form) (old new : Hash S) → StaysNumbered old new → Packs (options_for form old) new → numbers_with new.body.head new.region ≡ in_form form (numbers_with old.body.head old.region)
formed_numbers form old new stays packs = λ i. ((packs.options_is ∙ form_options form old) i ∷ stays.apow i ∷ stays.fpow i ∷ stays.buckets i ∷ []) ++ stays.map.region_same i

leads_by : (a b c d : ℕ) → a ≡ b → b ≤ c → d ≡ c → a ≤ d
leads_by a b c d is less was = omega (arith, is, less, was)

-- over files of which one engine holds the numbers, and another those in a form
pub formed_layout : {S : Type 0} (form : Form) (e e' : HashEngine S) (old new : List ℕ) (m n : Map) → HoldsCounted e old m → HoldsCounted e' new n
    → numbers_with e'.hash.body.head e'.hash.region ≡ in_form form (numbers_with e.hash.body.head e.hash.region) → lead_of e'.hash.body.head ≤ lead_of e.hash.body.head → FormsLayout form (layout_in old) (layout_in new)
formed_layout form e e' old new m n before now numbers lead = record {
  numbers = held_layout e' new n now ∙ (numbers ∙ ap (in_form form) (sym (held_layout e old m before)));
  lead = leads_by (layout_in new).lead (lead_of e'.hash.body.head) (lead_of e.hash.body.head) (layout_in old).lead (held_lead e' new n now) lead (held_lead e old m before);
}

-- or that keeps them
pub kept_layout : {S : Type 0} (e e' : HashEngine S) (old new : List ℕ) (m n : Map) → HoldsCounted e old m → HoldsCounted e' new n → KeepsHead e e' → KeepsNumbers (layout_in old) (layout_in new)
kept_layout e e' old new m n before now keeps = record {
  same = held_layout e' new n now ∙ keeps.same ∙ sym (held_layout e old m before);
  lead = leads_by (layout_in new).lead (lead_of e'.hash.body.head) (lead_of e.hash.body.head) (layout_in old).lead (held_lead e' new n now) keeps.lead (held_lead e old m before);
}

pub both_done : {T E : Type 0} {A B C : Type 0} (r : Result T E) → OnOk r A → OnOk r B → (A → B → C) → OnOk r C
both_done (Ok x) a b f = f a b
both_done (Err x) a b f = tt

-- ---- made by an opening

no_option : (n : ℕ) → n ≤ 1 → (n == 1) ≡ false → n ≡ 0
no_option zero most other = refl
no_option (suc zero) most other = absurd cc
no_option (suc (suc n)) most other = absurd (omega (arith, most))

-- nothing is free in front of the end, where the first block would stand there
none_free : (h : Head) (bytes : List ℕ) → h.size ≡ h.first → free_end h bytes ≡ 0
none_free h bytes size = ap (λ (n : ℕ). free_at_end n (width h) 0 (between h.first h.size bytes)) (none_behind h.size h.first size)

pub usual_layout : (files : Files) → Shaped usual files → KeepsLayout (layout_in []) (layout_of files)
usual_layout files s =
    let n = s.numbers in
    let some : 1 ≤ length (files 0) = let long = s.long in let size = n.size in let first = n.behind in omega (arith, long, size, first) in
    let is = some_layout (files 0) some in record {
      numbers = record {
        same = ap (λ (l : Layout). l.numbers) is ∙ (λ i. (no_option (head_in (take 256 (files 0))).options n.options_most n.form i ∷ n.apow_is i ∷ n.fpow_is i ∷ n.buckets_is i ∷ []) ++ n.opaque i);
        lead = no_more 0 (layout_of files).lead (ap (λ (l : Layout). l.lead) is ∙ no_lead (head_in (take 256 (files 0))) n.behind n.least);
      };
      slack =
          let sum = ap (λ (l : Layout). l.slack) is in
          let behind = none_behind (length (files 0)) (head_in (take 256 (files 0))).size s.long in
          let free = none_free (head_in (take 256 (files 0))) (files 0) n.size in
          omega (arith, sum, behind, free);
    }

-- the file that was made ends where its head says
pub created_long : (h now : Head) (bytes : List ℕ) → bytes ≡ new_bytes h → take 256 bytes ≡ spelled now → now ≡ h → 256 ≤ length bytes → sections h ≤ h.first → length bytes ≡ h.first
created_long h now bytes made spells same long behind =
    let front : length (spelled h) ≡ 256 = ap (λ (g : Head). length (spelled g)) (sym same) ∙ (sym (ap length spells) ∙ length-take-le 256 bytes long) in
    omega (arith, ap length made, length-append (spelled h) (replicate (h.first - 256) 0), length-replicate {A = ℕ} (h.first - 256) 0, front, behind)
