-- How the main file of what is held is laid out.
use Rattle.std.proofs.Common.{◌≡◌, ◌∙◌, ℕ, ◌+◌, ◌≤◌, List, [], ◌∷◌, length, refl, sym, ap, subst, arith}
use Rattle.std.specs.Prelude.{take}
use Rattle.tc_base.specs.Maps.{Map}
use Rattle.tc_base.specs.declared.kind.Form.{Form}
use Rattle.tc_space.specs.Stores.{in_form}
use Rattle.tc_space.specs.declared.records.Records.{Ghosts as Stores}
use Rattle.tc_space.specs.declared.space.Space.{Ghosts}
use Rattle.hf_head.specs.declared.head.Head.{Head}
use Rattle.hf_head.specs.Heads.{head_in}
use Rattle.tc_hash.specs.declared.hash.Hash.{Hash}
use Rattle.tc_hash.specs.Holding.{HoldsFile}
use Rattle.tc_hash.specs.Keeping.{lead_of, numbers_of}
use Rattle.tc_hash.specs.Standing.{lead_in, numbers_in}
use Rattle.tc_hashdb.specs.Laying.{same_lead}
use Rattle.tc_treedb.specs.Trees.{IsStore}
use Rattle.td_index.specs.Checks.{StaysRows}
use Rattle.ty_base.specs.Holding.{FormsLayout, KeepsNumbers, Layout}
use Rattle.tc_tabledb.specs.Laying.{main_layout}

-- a file that is there is laid out as its head says
pub some_numbers : (bytes : List ℕ) (slack : ℕ) → 1 ≤ length bytes → (main_layout bytes slack).numbers ≡ numbers_in (head_in (take 256 bytes))
some_numbers [] slack some = absurd (omega (arith, some))
some_numbers (b ∷ bytes) slack some = refl

pub some_lead : (bytes : List ℕ) (slack : ℕ) → 1 ≤ length bytes → (main_layout bytes slack).lead ≡ lead_in (head_in (take 256 bytes))
some_lead [] slack some = absurd (omega (arith, some))
some_lead (b ∷ bytes) slack some = refl

pub the_slack : (bytes : List ℕ) (slack : ℕ) → (main_layout bytes slack).slack ≡ slack
the_slack [] slack = refl
the_slack (b ∷ bytes) slack = refl

-- the numbers and the lead are told of the bytes alone
pub numbers_by : (bytes : List ℕ) (i j : ℕ) → (main_layout bytes i).numbers ≡ (main_layout bytes j).numbers
numbers_by [] i j = refl
numbers_by (b ∷ bytes) i j = refl

pub lead_by : (bytes : List ℕ) (i j : ℕ) → (main_layout bytes i).lead ≡ (main_layout bytes j).lead
lead_by [] i j = refl
lead_by (b ∷ bytes) i j = refl

no_more : (a b : ℕ) → b ≡ a → b ≤ a
no_more a b same = omega (arith, same)

-- where the bytes stay they stay
pub bytes_stay : (old new : List ℕ) (i j : ℕ) → new ≡ old → KeepsNumbers (main_layout old i) (main_layout new j)
bytes_stay old new i j same = record {
  same = ap (λ (b : List ℕ). (main_layout b j).numbers) same ∙ numbers_by old j i;
  lead = no_more (main_layout old i).lead (main_layout new j).lead (ap (λ (b : List ℕ). (main_layout b j).lead) same ∙ lead_by old j i);
}

less_by : (a b c d : ℕ) → a ≡ b → b ≤ c → d ≡ c → a ≤ d
less_by a b c d is less was = omega (arith, is, less, was)

-- what is held has bytes
hash_some : {S : Type 0} (h : Hash S) (bytes : List ℕ) (m : Map) → HoldsFile h bytes m → 1 ≤ length bytes
hash_some h bytes m held =
    let laid = held.map.has.is.laid in
    let front = h.body.valid.numbers.first_behind in
    omega (arith, laid.on, laid.within, front)

hash_numbers : {S : Type 0} (h : Hash S) (bytes : List ℕ) (m : Map) → HoldsFile h bytes m → numbers_in (head_in (take 256 bytes)) ≡ numbers_of h
hash_numbers h bytes m held = let same = held.numbers in λ i. same.options i ∷ same.apow i ∷ same.fpow i ∷ same.buckets i ∷ []

module _ {S : Type 0} (s : Ghosts S) (R : Stores (Hash S) S) (store : IsStore s R) where
  pub rows_some : (v : Hash S) (bytes : List ℕ) (m : Map) → R.holds v bytes m → 1 ≤ length bytes
  rows_some v bytes m held = hash_some v bytes m (store.into v bytes m held)

  pub held_numbers : (v : Hash S) (bytes : List ℕ) (m : Map) (slack : ℕ) → R.holds v bytes m → (main_layout bytes slack).numbers ≡ R.numbers v
  held_numbers v bytes m slack held = some_numbers bytes slack (rows_some v bytes m held) ∙ (hash_numbers v bytes m (store.into v bytes m held) ∙ sym (store.numbers v))

  pub held_lead : (v : Hash S) (bytes : List ℕ) (m : Map) (slack : ℕ) → R.holds v bytes m → (main_layout bytes slack).lead ≡ R.lead v
  held_lead v bytes m slack held = some_lead bytes slack (rows_some v bytes m held) ∙ (same_lead v.body.head (head_in (take 256 bytes)) (store.into v bytes m held).numbers ∙ sym (store.lead v))

  -- over files of which one holds the numbers, and another keeps them
  pub kept_numbers : (v w : Hash S) (old new : List ℕ) (m n : Map) (i j : ℕ) → R.holds v old m → R.holds w new n → StaysRows R v w → KeepsNumbers (main_layout old i) (main_layout new j)
  kept_numbers v w old new m n i j before now stays = record {
    same = held_numbers w new n j now ∙ (stays.numbers ∙ sym (held_numbers v old m i before));
    lead = less_by (main_layout new j).lead (R.lead w) (R.lead v) (main_layout old i).lead (held_lead w new n j now) stays.lead (held_lead v old m i before);
  }

  -- or has those in a form
  pub formed_numbers : (form : Form) (v w : Hash S) (old new : List ℕ) (m n : Map) (i j : ℕ) → R.holds v old m → R.holds w new n → R.numbers w ≡ in_form form (R.numbers v) → R.lead w ≤ R.lead v → FormsLayout form (main_layout old i) (main_layout new j)
  formed_numbers form v w old new m n i j before now numbers lead = record {
    numbers = held_numbers w new n j now ∙ (numbers ∙ ap (in_form form) (sym (held_numbers v old m i before)));
    lead = less_by (main_layout new j).lead (R.lead w) (R.lead v) (main_layout old i).lead (held_lead w new n j now) lead (held_lead v old m i before);
  }
