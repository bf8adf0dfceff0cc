-- What a space over a volume tells of the volume's files.
use Rattle.std.specs.Prelude.{◌≡◌, ◌≤◌, ℕ, min, Bool, [], ◌∷◌, nat_lt, if◌then◌else◌, Option}
use Rattle.std.proofs.Common.{inl, inr, ⊎_elim, arith, ap, subst, sym}
use Rattle.std.proofs.lemmas.Bool.{le-ltb}
use Rattle.tc_base.specs.Files.{Files}
use Rattle.tc_io.specs.Images.{Calls, now, ImagesSince}
use Rattle.ud_log.specs.Undo.{data_of, recovered}
use Rattle.tc_held.specs.declared.held.Held.{Held}

-- what is told of files is what the calls of a volume made of them
pub record ShowsNow (calls : Calls) (files : Files) : Type 0 where
  pub same : (f : ℕ) → files f ≡ data_of (now calls) f

-- ---- what a stop leaves of a space over another

pub longer : (cs : Calls) (t u : ℕ) (ims : Files) → t ≤ u → ImagesSince cs u ims → ImagesSince cs t ims
longer [] t u ims le some = some
longer (c ∷ cs) t u ims le some = ⊎_elim (λ at_once. inl at_once) (λ older. inr (omega (arith, le, older.0), longer cs t u ims le older.1)) some

pub low_left : (left : ℕ → Option Files → Type 0) (calls : Calls) (t m : ℕ) (ims : Files) → ((u : ℕ) (jms : Files) → ImagesSince calls u jms → left u (recovered jms)) → ImagesSince calls t ims → left (min t m) (recovered ims)
low_left left calls t m ims leaves some = leaves (min t m) ims (longer calls (min t m) t ims (omega arith) some)

pub low_exit : {S : Type 0} (left : ℕ → Option Files → Type 0) (moment : S → ℕ) (n : ℕ) (x : S × Held) (below : S) (held : Held) (o : Option Files) → moment below ≤ n → left (moment below) o → left (min n (moment (if nat_lt n n then x else (below, held)).0)) o
low_exit {S} left moment n x below held o le l =
    let same : (if nat_lt n n then x else (below, held)) ≡ (below, held) = ap (λ (b : Bool). if b then x else (below, held)) (le-ltb n n (omega arith)) in
    let low : moment below ≡ min n (moment below) = omega (arith, le) in
    subst (λ (q : S × Held). left (min n (moment q.0)) o) (sym same) (subst (λ (k : ℕ). left k o) low l)
