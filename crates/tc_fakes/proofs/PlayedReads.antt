-- A read that comes.
use Rattle.std.proofs.Common.{◌≡◌, ℕ, Bool, true, false, cond, List, [], ◌∷◌, length, take, refl, sym, ap, ◌∙◌}
use Rattle.std.specs.Prelude.{◌&&◌}
use Rattle.tc_io.specs.declared.wire.Ev.TheVariants as event
use Rattle.tc_io.specs.declared.act.Act.{Act}
use Rattle.tc_io.specs.declared.act.Act.TheVariants.{Read}
use Rattle.tc_fakes.specs.declared.playing.Play.TheVariants.{Give}
use Rattle.tc_io.specs.Script.{Lines, next_act, can_end, is_read}
use Rattle.tc_io.specs.Lines.{has}
use Rattle.tc_fakes.specs.Play.{Gives}

if_both : {A : Type 0} (a b c : Bool) (x y z : A) → a ≡ true → b ≡ true → c ≡ false → cond (a && b) (cond c x y) z ≡ y
if_both true true false x y z p q r = refl
if_both true true true x y z p q r = absurd cc
if_both true false c x y z p q r = absurd cc
if_both false b c x y z p q r = absurd cc

pub read_given : (act : Act) (c : ℕ) (bytes slice into : List ℕ) (l : Lines) (paused : List ℕ) → act ≡ Read c bytes → slice ≡ bytes → can_end l c ≡ true → is_read slice ≡ true → has paused c ≡ false → take (length slice) into ≡ slice → Gives act l paused (Give (event.Read c (length slice))) into
read_given act c bytes slice into l paused is same ends fits free front = record {
  is = λ busy acts.
      ap (λ (a : Act). next_act (a ∷ acts) l paused busy) (is ∙ ap (λ (b : List ℕ). Read c b) (sym same))
      ∙ if_both (can_end l c) (is_read slice) (has paused c) (event.Quiet, [], Read c slice ∷ acts) (event.Read c (length slice), slice, acts) (next_act acts l paused busy) ends fits free
      ∙ ap (λ (b : List ℕ). (event.Read c (length slice), b, acts)) (sym front);
}
