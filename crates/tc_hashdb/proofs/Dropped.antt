-- Keys taken out, one after the other.
use Rattle.std.proofs.Common.{◌≡◌, ◌∙◌, ℕ, ◌+◌, ◌<◌, List, length, take, ap, subst}
use Rattle.std.proofs.Math.ListN.{get_or}
use Rattle.tc_space.specs.Frames.{Writes, writes_then}
use Rattle.tc_space.specs.Stores.{Only}
use Rattle.tc_space.specs.declared.space.Space.{Ghosts}
use Rattle.tc_hashdb.specs.declared.holding.HashEngine.{HashEngine}
use Rattle.tc_hashdb.specs.Changing.{all_out, out_one}
use Rattle.tc_hashdb.specs.Holding.{Means}
use Rattle.tc_hashdb.proofs.Several.{out_on}

module _ {S : Type 0} (s : Ghosts S) where
  pub out_more : (v u w : HashEngine S) (a b c : S) (keys : List (List ℕ)) (i : ℕ) (key text : List ℕ) → i < length keys → key ≡ get_or keys i key → text ≡ key → Writes s (Only 0) (Means s) (all_out (take i keys)) v u a b → Writes s (Only 0) (Means s) (λ m. out_one m text) u w b c → Writes s (Only 0) (Means s) (all_out (take (i + 1) keys)) v w a c
  out_more v u w a b c keys i key text lt is named first second =
      let both = writes_then s (Means s) (Only 0) _ _ v u w a b c first second in
      record {
        sound = both.sound;
        others = both.others;
        means = λ m means. subst (λ n. Means s w c n) (ap (out_one (all_out (take i keys) m)) named ∙ out_on keys i key m lt is) (both.means m means);
      }
