-- From what was read of contents to what a request is answered.
use Rattle.std.proofs.Common.{◌≡◌, ◌∙◌, ℕ, Bool, true, List, [], ◌∷◌, ◌++◌, length, Option, Some, None, option_map, refl, sym, ap, subst}
use Rattle.std.specs.Prelude.{Result, Ok, Err, IfOk, OnOk, IsErrOf, map}
use Rattle.std.specs.Result.{result_and}
use Rattle.tc_base.specs.Files.{Files}
use Rattle.tc_base.specs.declared.request.Reply.{Reply}
use Rattle.tc_base.specs.declared.request.Reply.TheVariants as reply
use Rattle.tc_base.specs.declared.seq.Pair.{Pair}
use Rattle.tc_space.specs.Frames.{Keeps, Reads}
use Rattle.tc_space.specs.declared.errors.RecErr.{RecErr}
use Rattle.tc_space.specs.declared.space.Space.{Ghosts}
use Rattle.tc_model.specs.Contents.{Contents}
use Rattle.tc_model.specs.declared.misc.Misc.TheVariants as misc
use Rattle.tc_model.specs.Meaning.{ranged}
use Rattle.tc_model.specs.Rows.{texts_of}
use Rattle.tc_model.specs.Texts.{maximum_of}
use Rattle.ty_answers.specs.Calls.{meant}
use Rattle.tc_engine.specs.Rows.{Adds, AreItems, Extends, IsItem, bytes_of, item_row, pair_rows}
use Rattle.tc_engine.specs.declared.rows.Rows.{Rows}
use Rattle.ty_base.specs.Holding.{Held, Layout, numbers_stay}
use Rattle.ty_answers.specs.Answers.{Answered, Answers, Request, fail_reply, told_by}
use Rattle.ty_answers.specs.Lists.{Gives, Opens, counted, no_rows, room}
use Rattle.ty_answers.specs.declared.voice.Voice.{Voice}
use Rattle.ty_answers.proofs.RowReplies.{IsListed, answered, item_listed, items_listed, list_told, pairs_listed, texts_listed, value_told}

-- what was gathered stands wherever it could be gathered
pub and_found : (filled : Result (Unit {0}) RecErr) (found : Bool) → result_and filled (Ok true) ≡ Ok found → found ≡ true
and_found (Ok x) found is = let k : Ok true ≡ Ok found = is in cc
and_found (Err x) found is = absurd cc

pub and_ok : (P : Type 0) (filled : Result (Unit {0}) RecErr) (found : Bool) → result_and filled (Ok true) ≡ Ok found → OnOk filled P → P
and_ok P (Ok x) found is h = h
and_ok P (Err x) found is h = absurd cc

pub and_err : (filled : Result (Unit {0}) RecErr) (e : RecErr) → IsErrOf (result_and filled (Ok true)) e → IsErrOf filled e
and_err (Ok x) e is = absurd cc
and_err (Err x) e is = let k : Err x ≡ Err e = is in cc

pub element_meant : (c : Contents) (o : Option (List ℕ))
    → option_map {U = Contents × Reply} (λ answer. (c, answer)) (option_map (λ v. reply.List (v ∷ [])) o) ≡ option_map {U = Contents × Reply} (λ x. (x.0, reply.List x.1)) (option_map {U = Contents × List (List ℕ)} (λ items. (c, items)) (option_map (λ v. v ∷ []) o))
element_meant c None = refl
element_meant c (Some v) = refl

pub texts_meant : (c : Contents) (o : Option (List (List ℕ)))
    → option_map {U = Contents × Reply} (λ answer. (c, answer)) (option_map (λ items. reply.List items) o) ≡ option_map {U = Contents × Reply} (λ x. (x.0, reply.List x.1)) (option_map {U = Contents × List (List ℕ)} (λ items. (c, items)) o)
texts_meant c None = refl
texts_meant c (Some items) = refl

-- a range, by what its maximum spells
abbrev pub range_meant : Contents → List ℕ → Option (List ℕ) → Option (Option ℕ) → Option (Contents × Reply)
range_meant c from to o = option_map {U = Contents × Reply} (λ x. (x.0, reply.List x.1)) (option_map {U = Contents × List (List ℕ)} (λ items. (c, items)) (option_map (λ most. texts_of (ranged c from to most)) o))

pub range_some : (c : Contents) (from maximum : List ℕ) (to : Option (List ℕ)) (most : Option ℕ) → Some most ≡ maximum_of maximum → Some (c, reply.List (texts_of (ranged c from to most))) ≡ meant (misc.Range from maximum to) c
range_some c from maximum to most is = ap (range_meant c from to) is

module _ {S E : Type 0} (s : Ghosts S) (own : ℕ → Type 0) (layout : Files → Layout) (holds : E → Files → Contents → Type 0) where
  -- a request that only reads
  pub read_answers : (effect : Request) (refusal : Reply) (updating done : Bool) (e e' : E) (a b : S) (old new : List ℕ) → Reads s (Held s holds) e e' a b → Keeps s a b → ((c : Contents) → Held s holds e a c → Answered (effect c) refusal done c c old new)
      → Answers s own layout holds effect refusal updating done e e' a b old new
  read_answers effect refusal updating done e e' a b old new reads keeps says = record {
    sound = reads.sound;
    others = record { same = λ t g other. reads.now t g };
    numbered = λ c h. numbers_stay (layout (s.now a)) (layout (s.now b)) (λ i. layout (λ g. reads.now h.0 g i));
    answered = λ c h. (c, reads.means c h, says c h);
    idle = λ i. record { keeps = keeps; files = reads.now; untouched = reads.touched; is_sound = reads.sound };
  }

  -- the same request by another name
  pub same_effect : (f g : Request) (refusal : Reply) (updating : Bool) (result : Result Bool RecErr) (e e' : E) (a b : S) (old new : List ℕ) → ((c : Contents) → f c ≡ g c) → IfOk result (λ done. Answers s own layout holds f refusal updating done e e' a b old new)
      → IfOk result (λ done. Answers s own layout holds g refusal updating done e e' a b old new)
  same_effect f g refusal updating (Ok done) e e' a b old new same h = record {
    sound = h.sound;
    others = h.others;
    numbered = h.numbered;
    answered = λ c held. let x = h.answered c held in (x.0, x.1, subst (λ y. Answered y refusal done c x.0 old new) (same c) x.2);
    idle = h.idle;
  }
  same_effect f g refusal updating (Err x) e e' a b old new same h = tt

  -- a list of rows
  pub list_read : (f : Contents → Option Reply) (voice : Voice) (updating : Bool) (result made : Result Bool RecErr) (r0 r1 : Rows) (begin : ℕ) (e e' : E) (a b : S) (old new : List ℕ)
      → begin ≡ length old → Opens r0 (old ++ no_rows) room → Extends r0 r1 → IfOk result (λ whole. Gives made r1 begin voice whole (counted r1 begin) new)
      → ((found : Bool) → made ≡ Ok found → (c : Contents) → Held s holds e a c → IsListed (f c) found r0 r1)
      → Reads s (Held s holds) e e' a b → Keeps s a b
      → IfOk result (λ done. Answers s own layout holds (told_by f) (fail_reply voice) updating done e e' a b old new)
  list_read f voice updating (Ok whole) made r0 r1 begin e e' a b old new at opens ext gives listed reads keeps =
      read_answers (told_by f) (fail_reply voice) updating whole e e' a b old new reads keeps (λ c h.
      answered (f c) voice c r0 r1 no_rows room begin made whole old (counted r1 begin) new at opens ext gives (list_told (f c) r0 r1 old begin gives.found at opens (listed gives.found gives.made_is c h)))
  list_read f voice updating (Err x) made r0 r1 begin e e' a b old new at opens ext gives listed reads keeps = tt

  -- items, and pairs, that were added wherever it could be
  pub items_read : (f : Contents → List (List ℕ)) (voice : Voice) (updating : Bool) (result made : Result Bool RecErr) (filled : Result (Unit {0}) RecErr) (r0 r1 : Rows) (begin : ℕ) (e e' : E) (a b : S) (old new : List ℕ)
      → begin ≡ length old → Opens r0 (old ++ no_rows) room → Extends r0 r1 → made ≡ result_and filled (Ok true) → OnOk filled ((c : Contents) → Held s holds e a c → Adds r0 r1 (map item_row (f c)))
      → Reads s (Held s holds) e e' a b → Keeps s a b → IfOk result (λ whole. Gives made r1 begin voice whole (counted r1 begin) new)
      → IfOk result (λ done. Answers s own layout holds (told_by (λ c. Some (reply.List (f c)))) (fail_reply voice) updating done e e' a b old new)
  items_read f voice updating result made filled r0 r1 begin e e' a b old new at opens ext is adds reads keeps gives =
      list_read (λ c. Some (reply.List (f c))) voice updating result made r0 r1 begin e e' a b old new at opens ext gives
      (λ found m c h. items_listed (f c) r0 r1 found (and_found filled found (sym is ∙ m)) (and_ok ((c : Contents) → Held s holds e a c → Adds r0 r1 (map item_row (f c))) filled found (sym is ∙ m) adds c h)) reads keeps

  pub pairs_read : (f : Contents → List Pair) (voice : Voice) (updating : Bool) (result made : Result Bool RecErr) (filled : Result (Unit {0}) RecErr) (r0 r1 : Rows) (begin : ℕ) (e e' : E) (a b : S) (old new : List ℕ)
      → begin ≡ length old → Opens r0 (old ++ no_rows) room → Extends r0 r1 → made ≡ result_and filled (Ok true) → OnOk filled ((c : Contents) → Held s holds e a c → Adds r0 r1 (pair_rows (f c)))
      → Reads s (Held s holds) e e' a b → Keeps s a b → IfOk result (λ whole. Gives made r1 begin voice whole (counted r1 begin) new)
      → IfOk result (λ done. Answers s own layout holds (told_by (λ c. Some (reply.Pairs (f c)))) (fail_reply voice) updating done e e' a b old new)
  pairs_read f voice updating result made filled r0 r1 begin e e' a b old new at opens ext is adds reads keeps gives =
      list_read (λ c. Some (reply.Pairs (f c))) voice updating result made r0 r1 begin e e' a b old new at opens ext gives
      (λ found m c h. pairs_listed (f c) r0 r1 found (and_found filled found (sym is ∙ m)) (and_ok ((c : Contents) → Held s holds e a c → Adds r0 r1 (pair_rows (f c))) filled found (sym is ∙ m) adds c h)) reads keeps

  -- a value, alone or as the one element of a list
  pub value_read : (f : Contents → Option (List ℕ)) (voice : Voice) (updating : Bool) (result made : Result Bool RecErr) (r0 r1 : Rows) (begin : ℕ) (e e' : E) (a b : S) (old new : List ℕ)
      → begin ≡ length old → Opens r0 (old ++ 0 ∷ []) 67108863 → Extends r0 r1 → IfOk made (λ found. (c : Contents) → Held s holds e a c → IsItem (f c) found r0 r1)
      → Reads s (Held s holds) e e' a b → Keeps s a b → IfOk result (λ whole. Gives made r1 begin voice whole (bytes_of r1) new)
      → IfOk result (λ done. Answers s own layout holds (told_by (λ c. option_map (λ v. reply.Value v) (f c))) (fail_reply voice) updating done e e' a b old new)
  value_read f voice updating (Ok whole) made r0 r1 begin e e' a b old new at opens ext item reads keeps gives =
      let items = subst (λ (m : Result Bool RecErr). IfOk m (λ found. (c : Contents) → Held s holds e a c → IsItem (f c) found r0 r1)) gives.made_is item in
      read_answers (told_by (λ c. option_map (λ v. reply.Value v) (f c))) (fail_reply voice) updating whole e e' a b old new reads keeps (λ c h.
      answered (option_map (λ v. reply.Value v) (f c)) voice c r0 r1 (0 ∷ []) 67108863 begin made whole old (bytes_of r1) new at opens ext gives (value_told (f c) r0 r1 old gives.found opens (items c h)))
  value_read f voice updating (Err x) made r0 r1 begin e e' a b old new at opens ext item reads keeps gives = tt

  pub element_read : (f : Contents → Option (List ℕ)) (voice : Voice) (updating : Bool) (result made : Result Bool RecErr) (r0 r1 : Rows) (begin : ℕ) (e e' : E) (a b : S) (old new : List ℕ)
      → begin ≡ length old → Opens r0 (old ++ no_rows) room → Extends r0 r1 → IfOk made (λ found. (c : Contents) → Held s holds e a c → IsItem (f c) found r0 r1)
      → Reads s (Held s holds) e e' a b → Keeps s a b → IfOk result (λ whole. Gives made r1 begin voice whole (counted r1 begin) new)
      → IfOk result (λ done. Answers s own layout holds (told_by (λ c. option_map (λ v. reply.List (v ∷ [])) (f c))) (fail_reply voice) updating done e e' a b old new)
  element_read f voice updating result made r0 r1 begin e e' a b old new at opens ext item reads keeps gives =
      list_read (λ c. option_map (λ v. reply.List (v ∷ [])) (f c)) voice updating result made r0 r1 begin e e' a b old new at opens ext gives
      (λ found m c h. item_listed (f c) r0 r1 found (subst (λ (x : Result Bool RecErr). IfOk x (λ found. (c : Contents) → Held s holds e a c → IsItem (f c) found r0 r1)) m item c h)) reads keeps

  -- texts where there are any
  pub texts_read : (f : Contents → Option (List (List ℕ))) (voice : Voice) (updating : Bool) (result made : Result Bool RecErr) (r0 r1 : Rows) (begin : ℕ) (e e' : E) (a b : S) (old new : List ℕ)
      → begin ≡ length old → Opens r0 (old ++ no_rows) room → Extends r0 r1 → IfOk made (λ found. (c : Contents) → Held s holds e a c → AreItems (f c) found r0 r1)
      → Reads s (Held s holds) e e' a b → Keeps s a b → IfOk result (λ whole. Gives made r1 begin voice whole (counted r1 begin) new)
      → IfOk result (λ done. Answers s own layout holds (told_by (λ c. option_map (λ items. reply.List items) (f c))) (fail_reply voice) updating done e e' a b old new)
  texts_read f voice updating result made r0 r1 begin e e' a b old new at opens ext items reads keeps gives =
      list_read (λ c. option_map (λ items. reply.List items) (f c)) voice updating result made r0 r1 begin e e' a b old new at opens ext gives
      (λ found m c h. texts_listed (f c) r0 r1 found (subst (λ (x : Result Bool RecErr). IfOk x (λ found. (c : Contents) → Held s holds e a c → AreItems (f c) found r0 r1)) m items c h)) reads keeps
