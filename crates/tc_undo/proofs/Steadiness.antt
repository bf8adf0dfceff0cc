-- A space over a volume is steady where its calls were quiet.
use Rattle.std.proofs.Common.{◌≡◌, inl, inr, ⊎_elim, ap, length, Option}
use Rattle.tc_base.specs.Files.{Files}
use Rattle.tc_io.specs.Images.{Calls, now}
use Rattle.tc_space.specs.Moments.{Past, Steady, LeavesOnly}
use Rattle.ud_log.specs.Undo.{data_of, recovered}
use Rattle.ud_state.specs.Since.{AllLeft, Leaves, Left, Quiet, Since, calls_at, since_as, since_at, since_later, since_each}
use Rattle.ud_state.proofs.Leaving.{all_left}

pub leaves_of : {S : Type 0} (calls : S → Calls) (a b : S) (P : Option Files → Type 0) → Since (AllLeft P) (calls a) (calls b) → LeavesOnly (λ s. length (calls s)) (λ s. Left (calls s)) a b P
leaves_of calls a b P since = record {
  later = since_later (AllLeft P) (calls a) (calls b) since;
  each = λ t o le left. ⊎_elim (λ was. inl (record { is = was })) (λ p. inr p) (since_each P (calls a) (calls b) since t o le left.is);
}

pub past_of : {S : Type 0} (calls : S → Calls) (P : Calls → Type 0) (a b : S) → Since P (calls a) (calls b) → Past (λ s. length (calls s)) (λ s t. data_of (now (calls_at t (calls s)))) a b
past_of calls P a b since = record { later = since_later P (calls a) (calls b) since; same = λ t le. ap (λ (cs : Calls). data_of (now cs)) (since_at P (calls a) (calls b) since t le) }

past_quiet : {S : Type 0} (calls : S → Calls) (a b : S) → Quiet (calls a) (calls b) → Past (λ s. length (calls s)) (λ s t. data_of (now (calls_at t (calls s)))) a b
past_quiet calls a b quiet = past_of calls (Leaves (λ o. o ≡ recovered (now (calls a)))) a b quiet.moments

pub steady_of : {S : Type 0} (calls : S → Calls) (a b : S) → Quiet (calls a) (calls b) → Steady (λ s. length (calls s)) (λ s t. data_of (now (calls_at t (calls s)))) (λ s. Left (calls s)) (λ s. recovered (now (calls s))) a b
steady_of calls a b quiet =
    let w = recovered (now (calls a)) in
    record { same = quiet.kept; leaves = leaves_of calls a b (λ o. o ≡ w) (since_as (Leaves (λ o. o ≡ w)) (AllLeft (λ o. o ≡ w)) (calls a) (calls b) (λ c all. all_left w c all) quiet.moments); past = past_quiet calls a b quiet }
