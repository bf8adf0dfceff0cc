-- What the undo log's own state says of stops.
use Rattle.std.proofs.Common.{◌≡◌, ◌⊎◌, inl, inr, ⊎_elim, ℕ, ◌≤◌, List, [], ◌∷◌, length, Bool, true, false, cond, Option, Some, arith, sym, subst, ap, ◌∙◌}
use Rattle.std.proofs.lemmas.Bool.{cases_Bool}
use Rattle.tc_base.specs.Files.{Files}
use Rattle.tc_io.specs.Images.{Calls, now, Images}
use Rattle.ud_log.specs.Undo.{is_data, data_of, recovered}
use Rattle.ud_state.specs.State.{Idle, IsOpen, IsValid, AreLens}
use Rattle.ud_state.specs.Since.{Left, LeftSince}
use Rattle.ud_state.proofs.Leaving.{all_left, left_now}
use Rattle.ud_state.proofs.Open.{tx_undo}
use Rattle.ud_state.proofs.Ends.{tx_now, idle_now, idle_undo}

valid_undo : (b : Bool) (cs : Calls) (end : ℕ) (recorded : List ℕ) (changed : List Bool) → IsValid b cs end recorded changed → (ims : Files) → Images cs ims → recovered ims ≡ recovered (now cs)
valid_undo true cs end recorded changed v ims are = tx_undo cs v.kept v.es v.tx ims are ∙ sym (tx_now cs v.kept v.es v.tx)
valid_undo false cs end recorded changed v ims are = idle_undo cs (data_of (now cs)) v ims are ∙ sym (idle_now cs (data_of (now cs)) v)

pub valid_only : (b : Bool) (cs : Calls) (end : ℕ) (recorded : List ℕ) (changed : List Bool) → IsValid b cs end recorded changed → (o : Option Files) → Left cs (length cs) o → o ≡ recovered (now cs)
valid_only b cs end recorded changed v o left = all_left (recovered (now cs)) cs (valid_undo b cs end recorded changed v) o (left_now cs o left.is)

earlier_left : (cs : Calls) (t u : ℕ) (o : Option Files) → t ≤ u → LeftSince cs u o → LeftSince cs t o
earlier_left [] t u o le left = left
earlier_left (c ∷ cs) t u o le left = ⊎_elim (λ at_once. inl at_once) (λ older. inr (omega (arith, le, older.0), earlier_left cs t u o le older.1)) left

pub left_earlier : (cs : Calls) (t u : ℕ) (o : Option Files) → t ≤ u → Left cs u o → Left cs t o
left_earlier cs t u o le left = record { is = earlier_left cs t u o le left.is }

pub data_at : (a : Files) (f : ℕ) → is_data f ≡ true → data_of a f ≡ a f
data_at a f isd = ap (λ t. cond t (a f) []) isd

-- one data file has changed
pub data_others : (a b : Files) (f : ℕ) → ((g : ℕ) → is_data g ≡ true → (f ≡ g → ⊥) → b g ≡ a g) → (g : ℕ) → (g ≡ f → ⊥) → data_of b g ≡ data_of a g
data_others a b f others g apart = each (cases_Bool (is_data g))
  where
    each : (is_data g ≡ true) ⊎ (is_data g ≡ false) → data_of b g ≡ data_of a g
    each (inl is) = data_at b g is ∙ others g is (λ same. apart (sym same)) ∙ sym (data_at a g is)
    each (inr not) = ap (λ t. cond t (b g) []) not ∙ sym (ap (λ t. cond t (a g) []) not)

pub idle_same : (cs c1 : Calls) → Idle c1 (data_of (now cs)) → (f : ℕ) → data_of (now c1) f ≡ data_of (now cs) f
idle_same cs c1 idle f = each (cases_Bool (is_data f))
  where
    each : (is_data f ≡ true) ⊎ (is_data f ≡ false) → data_of (now c1) f ≡ data_of (now cs) f
    each (inl is) = data_at (now c1) f is ∙ idle.same f is
    each (inr is) = ap (λ t. cond t (now c1 f) []) is ∙ sym (idle.blank f is)

pub idle_valid : (cs c1 : Calls) → Idle c1 (data_of (now cs)) → Idle c1 (data_of (now c1))
idle_valid cs c1 idle = subst (λ (fs : Files). Idle c1 fs) (λ i f. sym (idle_same cs c1 idle f) i) idle

pub idle_lens : (cs c1 : Calls) (lens : List ℕ) → Idle c1 (data_of (now cs)) → AreLens lens (now cs) → AreLens lens (now c1)
idle_lens cs c1 lens idle are = record { long = are.long; at = λ f isd. are.at f isd ∙ ap (λ (l : List ℕ). length l) (sym (idle.same f isd ∙ data_at (now cs) f isd)) }

pub valid_idle : (b : Bool) (cs : Calls) (end : ℕ) (recorded : List ℕ) (changed : List Bool) → b ≡ false → IsValid b cs end recorded changed → recovered (now cs) ≡ Some (data_of (now cs))
valid_idle true cs end recorded changed off v = absurd cc
valid_idle false cs end recorded changed off v = idle_now cs (data_of (now cs)) v

pub valid_some : (b : Bool) (cs : Calls) (end : ℕ) (recorded : List ℕ) (changed : List Bool) → IsValid b cs end recorded changed → (kept : Files) × (recovered (now cs) ≡ Some kept)
valid_some true cs end recorded changed v = (v.kept, tx_now cs v.kept v.es v.tx)
valid_some false cs end recorded changed v = (data_of (now cs), idle_now cs (data_of (now cs)) v)

pub valid_open : (b : Bool) (cs : Calls) (end : ℕ) (recorded : List ℕ) (changed : List Bool) → b ≡ true → IsOpen cs end recorded changed → IsValid b cs end recorded changed
valid_open true cs end recorded changed on o = o
valid_open false cs end recorded changed on o = absurd cc
