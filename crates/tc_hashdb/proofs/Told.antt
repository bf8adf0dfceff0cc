-- What an inspection reads, and what it tells.
use Rattle.std.proofs.Common.{◌≡◌, ◌∙◌, ℕ, List, ◌++◌, length, sym, ap, subst, append_assoc, ⊎_elim, arith}
use Rattle.std.specs.Prelude.{Option, Some, unwrap_or, codes, Bool, Result, Ok, Err, OnOk}
use Rattle.tc_base.specs.Files.{Files}
use Rattle.tc_space.specs.Frames.{OnlyReads, Reads}
use Rattle.tc_space.specs.declared.space.Space.{Ghosts}
use Rattle.hf_head.specs.declared.head.Head.{Head}
use Rattle.hf_head.specs.Heads.{head_in, is_large, unit}
use Rattle.ty_wire.specs.Prefixes.{IsPrefix}
use Rattle.tc_hash.specs.Opening.{HasHead}
use Rattle.tc_hash.proofs.Kept.{reaches}
use Rattle.tc_model.specs.Contents.{Contents}
use Rattle.ty_base.specs.Holding.{Held}
use Rattle.tc_hashdb.specs.declared.holding.HashEngine.{HashEngine}
use Rattle.tc_hashdb.specs.Holding.{HoldsKeys, HoldsCounted, Reopens}
use Rattle.tc_engine.specs.Lines.{line}
use Rattle.tc_hashdb.specs.Informing.{form_line, lines_of}

module _ {S : Type 0} (s : Ghosts S) where
  pub only_reads_up : (e : HashEngine S) (a b : S) → OnlyReads s a b → Reads s (Held s HoldsKeys) e e a b
  only_reads_up e a b reads = record {
    now = reads.files;
    touched = reads.untouched;
    sound = reads.is_sound;
    means = λ c h. (h.0, record { map = h.1.map; is = h.1.is; holds_map = subst (λ bytes. HoldsCounted e bytes h.1.map) (sym (reads.files h.0 0)) h.1.holds_map });
  }

-- the file of what is held has a head, where it stands for it
pub head_there : {S : Type 0} (e : HashEngine S) (files : Files) (c : Contents) → HoldsKeys e files c → Reopens files c → (h : Head) × HasHead 0 (files 0) h
head_there e files c h reopens = ⊎_elim
    (λ none. absurd (
    let long = reaches e.hash.body.head e.hash.body.pool.size e.hash.records _ h.map (files 0) h.holds_map.holds_it.map in
    let behind = e.hash.body.valid.numbers.first_behind in
    let empty_file : length (files 0) ≡ 0 = ap length none.0 in
    omega (arith, long, empty_file, behind)))
    (λ file. (file.stands.head, record { long = file.stands.opens.long; valid = file.stands.opens.valid; spells = file.stands.opens.spells; kind_is = file.stands.opens.kind_is }))
    reopens

pub told_is : (bytes a b : List ℕ) (head : Head) (found : Option Head) → found ≡ Some head → ((h : Head) × (found ≡ Some h) × (head_in bytes ≡ h)) → b ≡ a ++ lines_of head → (text : List ℕ) × (text ≡ lines_of (head_in bytes)) × (b ≡ a ++ text)
told_is bytes a b head found is other added = (lines_of head, ap (λ h. lines_of h) (ap (λ o. unwrap_or o head) (sym is ∙ other.1) ∙ sym other.2), added)

-- ---- lines one behind the other

then : (a b c x y : List ℕ) → b ≡ a ++ x → c ≡ b ++ y → c ≡ a ++ (x ++ y)
then a b c x y first second = second ∙ (ap (λ t. t ++ y) first ∙ append_assoc a x y)

pub lines_added : (a b c d e f g : List ℕ) (h : Head) (one : ℕ) (power : ℕ) (large : Bool) → one ≡ unit h → power ≡ h.fpow → large ≡ is_large h → b ≡ a ++ line (codes "bucket number: ") h.buckets → c ≡ b ++ line (codes "alignment: ") one → d ≡ c ++ line (codes "free pool power: ") power → e ≡ d ++ line (codes "file size: ") h.size → f ≡ e ++ line (codes "first record: ") h.first → g ≡ f ++ form_line large → g ≡ a ++ lines_of h
lines_added a b c d e f g h one power large one_is power_is large_is first second third fourth fifth last =
    then a b g _ _ first
    (then b c g _ _ (second ∙ ap (λ n. b ++ line (codes "alignment: ") n) one_is)
    (then c d g _ _ (third ∙ ap (λ n. c ++ line (codes "free pool power: ") n) power_is)
    (then d e g _ _ fourth
    (then e f g _ _ fifth (last ∙ ap (λ l. f ++ form_line l) large_is)))))

fronts_then : (a b c : List ℕ) → IsPrefix a b → IsPrefix b c → IsPrefix a c
fronts_then a b c first second = (first.0 ++ second.0, then a b c first.0 second.0 first.1 second.1)

pub lines_front : (a b c d e f g : List ℕ) → IsPrefix a b → IsPrefix b c → IsPrefix c d → IsPrefix d e → IsPrefix e f → IsPrefix f g → IsPrefix a g
lines_front a b c d e f g first second third fourth fifth last = fronts_then a b g first (fronts_then b c g second (fronts_then c d g third (fronts_then d e g fourth (fronts_then e f g fifth last))))

pub when_ok : {T E P Q : Type 0} (r : Result T E) → (P → Q) → OnOk r P → OnOk r Q
when_ok (Ok x) f p = f p
when_ok (Err e) f p = tt
