-- How the file of what is held is laid out.
use Rattle.std.specs.Prelude.{◌≡◌, ℕ, ◌≤◌, Bool, false, true, List, [], ◌∷◌, length, take}
use Rattle.std.proofs.Common.{◌∙◌, refl, sym, ap, arith}
use Rattle.tc_base.specs.declared.kind.Form.{Form}
use Rattle.tc_base.specs.declared.seq.Pair.{Pair}
use Rattle.hf_head.specs.Heads.{head_in}
use Rattle.bt_tree.specs.declared.tree.Tree.{Tree}
use Rattle.tc_hash.specs.declared.hash.Hash.{Hash}
use Rattle.tc_hash.specs.Ending.{slack_in}
use Rattle.tc_hash.specs.Keeping.{lead_of, numbers_of}
use Rattle.tc_hashdb.specs.Laying.{same_lead}
use Rattle.tc_space.specs.Stores.{in_form}
use Rattle.ty_base.specs.Holding.{FormsLayout, KeepsNumbers, Layout}
use Rattle.tc_treedb.specs.Holding.{Held, HoldsKept, HoldsOver}
use Rattle.tc_treedb.specs.Kept.{FormsKept, KeepsHead, lead_kept, numbers_kept}
use Rattle.tc_treedb.specs.Layouts.{layout_by, layout_in}
use Rattle.tc_treedb.specs.declared.kept.Kept.{Kept}
use Rattle.tc_treedb.specs.declared.kept.Kept.TheVariants.{Lexical, Decimal}

-- a file that is there is laid out as its head says
pub some_layout : (bytes : List ℕ) → 1 ≤ length bytes → layout_in bytes ≡ layout_by (head_in (take 256 bytes)) bytes
some_layout [] some = absurd (omega (arith, some))
some_layout (b ∷ bytes) some = refl

module _ {S O : Type 0} (decimal : Bool) (t : Tree (Hash S) O) (bytes : List ℕ) (ps : List Pair) (h : HoldsOver decimal t bytes ps) where
  -- what is held has bytes
  pub over_some : 1 ≤ length bytes
  over_some =
      let laid = h.store.map.has.is.laid in
      let front = t.store.body.valid.numbers.first_behind in
      omega (arith, laid.on, laid.within, front)

  pub over_layout : (layout_in bytes).numbers ≡ numbers_of t.store
  over_layout =
      let is = some_layout bytes over_some in
      let same = h.store.numbers in
      ap (λ (l : Layout). l.numbers) is ∙ (λ i. same.options i ∷ same.apow i ∷ same.fpow i ∷ same.buckets i ∷ [])

  pub over_lead : (layout_in bytes).lead ≡ lead_of t.store
  over_lead = ap (λ (l : Layout). l.lead) (some_layout bytes over_some) ∙ same_lead t.store.body.head (head_in (take 256 bytes)) h.store.numbers

pub kept_some : {S : Type 0} (kept : Kept S) (bytes : List ℕ) (m : Held) → HoldsKept kept bytes m → 1 ≤ length bytes
kept_some (Lexical t) bytes m h = over_some false t bytes m.1 h.1
kept_some (Decimal t) bytes m h = over_some true t bytes m.1 h.1

pub held_layout : {S : Type 0} (kept : Kept S) (bytes : List ℕ) (m : Held) → HoldsKept kept bytes m → (layout_in bytes).numbers ≡ numbers_kept kept
held_layout (Lexical t) bytes m h = over_layout false t bytes m.1 h.1
held_layout (Decimal t) bytes m h = over_layout true t bytes m.1 h.1

pub held_lead : {S : Type 0} (kept : Kept S) (bytes : List ℕ) (m : Held) → HoldsKept kept bytes m → (layout_in bytes).lead ≡ lead_kept kept
held_lead (Lexical t) bytes m h = over_lead false t bytes m.1 h.1
held_lead (Decimal t) bytes m h = over_lead true t bytes m.1 h.1

-- what holds nothing at its end
pub slack_layout : (bytes : List ℕ) → (layout_in bytes).slack ≡ slack_in bytes
slack_layout [] = refl
slack_layout (b ∷ bytes) = refl

less_by : (a b c d : ℕ) → a ≡ b → b ≤ c → d ≡ c → a ≤ d
less_by a b c d is less was = omega (arith, is, less, was)

-- over files of which one holds the numbers, and another keeps them
pub kept_layout : {S : Type 0} (v v' : Kept S) (old new : List ℕ) (m n : Held) → HoldsKept v old m → HoldsKept v' new n → KeepsHead v v' → KeepsNumbers (layout_in old) (layout_in new)
kept_layout v v' old new m n before now keeps = record {
  same = held_layout v' new n now ∙ (keeps.same ∙ sym (held_layout v old m before));
  lead = less_by (layout_in new).lead (lead_kept v') (lead_kept v) (layout_in old).lead (held_lead v' new n now) keeps.lead (held_lead v old m before);
}

-- or has those in a form
pub formed_layout : {S : Type 0} (form : Form) (v v' : Kept S) (old new : List ℕ) (m n : Held) → HoldsKept v old m → HoldsKept v' new n → FormsKept form v v' → FormsLayout form (layout_in old) (layout_in new)
formed_layout form v v' old new m n before now forms = record {
  numbers = held_layout v' new n now ∙ (forms.numbers ∙ ap (in_form form) (sym (held_layout v old m before)));
  lead = less_by (layout_in new).lead (lead_kept v') (lead_kept v) (layout_in old).lead (held_lead v' new n now) forms.lead (held_lead v old m before);
}
