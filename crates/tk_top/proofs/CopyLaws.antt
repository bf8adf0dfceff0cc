-- The copies of a run, turn by turn.
use Rattle.std.proofs.Common.{◌≡◌, ◌⊎◌, ◌≤◌, inl, inr, ⊎_elim, ℕ, Bool, true, false, List, [], ◌∷◌, ◌++◌, length, refl, sym, ap, subst, ◌∙◌, arith}
use Rattle.std.specs.Prelude.{Option, Some, None, Result, Ok, Err}
use Rattle.std.proofs.lemmas.Bool.{cond-false, cond-true}
use Rattle.std.proofs.lemmas.Slice.Eq.{bytes_eq-Decides}
use Rattle.tc_base.specs.Files.{Files}
use Rattle.tc_base.specs.Texts.{is_text}
use Rattle.tc_io.specs.Copies.{CopyMoments, LeftOfCopy, Named, as_before, copied, unusable}
use Rattle.tc_io.specs.Images.{Calls, Images, ImagesSince}
use Rattle.tc_io.specs.declared.wire.Ev.{Ev}
use Rattle.tc_io.specs.declared.wire.Entry.{Entry}
use Rattle.tc_io.specs.declared.wire.Entry.TheVariants.{Open, Dial, Event, Send, Close}
use Rattle.tc_model.specs.Contents.{Contents}
use Rattle.ty_world.specs.Logs.{Settings}
use Rattle.ty_world.specs.World.{AllOf, AreFinishing, ClosesOne, Copied, Mark, SendsTo, World, copied_at, copies_of, happens, labels_in, mark_of, world_after}
use Rattle.ty_rounds.specs.Copying.{AreMade, CopyLeaves, IsAmong, RoundCopies}
use Rattle.ty_rounds.specs.Kept.{IsIn, StandFor}
use Rattle.ty_rounds.specs.Turns.{Call, EndsTurn, IsAnyWhole, IsLone, IsTurn, IsWhole, entries_of, or_later}
use Rattle.ty_rounds.specs.declared.outcome.Outcome.{Outcome}
use Rattle.ty_rounds.specs.declared.outcome.Outcome.TheVariants.{Went, Gap, Shut}
use Rattle.ty_rounds.specs.declared.outcome.TurnErr.{TurnErr}
use Rattle.ty_rounds.specs.declared.outcome.TurnErr.TheVariants as turn
use Rattle.ty_rounds.proofs.Entries.{after_more}
use Rattle.tk_top.specs.CopyRuns.{CopiesSo, CopyRun, IsCopyOf, IsLeft}

-- ---- what a turn does to the copies of its world

-- nothing but the connections has changed
record Still (w v : World) : Type 0 where
  copies : v.copies ≡ w.copies
  mark : mark_of v ≡ mark_of w

still_then : (w v u : World) → Still w v → Still v u → Still w u
still_then w v u a b = record { copies = b.copies ∙ a.copies; mark = b.mark ∙ a.mark }

sends_still : (conns : List ℕ) (es : List Entry) (w : World) → AllOf (SendsTo conns) es → Still w (world_after es w)
sends_still conns [] w are = record { copies = refl; mark = refl }
sends_still conns (Open at ∷ es) w are = absurd are.0
sends_still conns (Dial host port answer ∷ es) w are = absurd are.0
sends_still conns (Event paused busy ev bytes ∷ es) w are = absurd are.0
sends_still conns (Send c bytes answer ∷ es) w are = let r = sends_still conns es (happens w (Send c bytes answer)) are.1 in record { copies = r.copies; mark = r.mark }
sends_still conns (Close c ∷ es) w are = absurd are.0

closes_still : (conns : List ℕ) (es : List Entry) (w : World) → AllOf (ClosesOne conns) es → Still w (world_after es w)
closes_still conns [] w are = record { copies = refl; mark = refl }
closes_still conns (Open at ∷ es) w are = absurd are.0
closes_still conns (Dial host port answer ∷ es) w are = absurd are.0
closes_still conns (Event paused busy ev bytes ∷ es) w are = absurd are.0
closes_still conns (Send c bytes answer ∷ es) w are = absurd are.0
closes_still conns (Close c ∷ es) w are = let r = closes_still conns es (happens w (Close c)) are.1 in record { copies = r.copies; mark = r.mark }

finishing_still : (conns : List ℕ) (es : List Entry) (w : World) → AreFinishing conns es → Still w (world_after es w)
finishing_still conns es w f =
    let v = world_after f.sends w in
    subst (λ (l : List Entry). Still w (world_after l w)) (sym f.parts) (subst (Still w) (sym (after_more f.sends f.closings w)) (still_then w v (world_after f.closings v) (sends_still conns f.sends w f.are_sends) (closes_still conns f.closings v f.are_closings)))

-- what a turn is behind its dials
record WithEvent (es : List Entry) : Type 0 where
  paused : List ℕ
  busy : Bool
  ev : Ev
  bytes : List ℕ
  conns : List ℕ
  rest : List Entry
  is : es ≡ Event paused busy ev bytes ∷ rest
  finishing : AreFinishing conns rest

abbrev Behind : List Entry → Type 0
Behind es = (es ≡ []) ⊎ WithEvent es

whole_behind : (conns : List ℕ) (ev : Ev) (es : List Entry) → IsWhole conns ev es → Behind es
whole_behind conns ev es w = inr (record { paused = w.paused; busy = w.busy; ev = ev; bytes = w.bytes; conns = _; rest = w.behind; is = w.is; finishing = w.finishing })

any_behind : (conns : List ℕ) (es : List Entry) → IsAnyWhole conns es → Behind es
any_behind conns es w = whole_behind conns w.0 es w.1

lone_behind : (es : List Entry) → IsLone es → Behind es
lone_behind es l = inr (record { paused = l.paused; busy = l.busy; ev = l.ev; bytes = l.bytes; conns = []; rest = []; is = l.is; finishing = record { sends = []; closings = []; parts = refl; are_sends = tt; are_closings = tt } })

later_behind : (logs : Bool) (conns : List ℕ) (es : List Entry) → or_later logs (IsLone es) (IsAnyWhole conns es) → Behind es
later_behind false conns es l = lone_behind es l
later_behind true conns es l = ⊎_elim (lone_behind es) (any_behind conns es) l

ends_behind : (logs : Bool) (conns : List ℕ) (res : Result Outcome TurnErr) (es : List Entry) → EndsTurn logs conns res es → Behind es
ends_behind logs conns (Ok Went) es e = whole_behind conns e.0 es e.1
ends_behind logs conns (Ok (Gap held follows)) es e = whole_behind conns e.0 es e.1
ends_behind logs conns (Ok Shut) es e = whole_behind conns _ es e
ends_behind logs conns (Err turn.Wire) es e = ⊎_elim (λ none. inl none) (any_behind conns es) e
ends_behind logs conns (Err turn.Memory) es e = ⊎_elim (λ none. inl none) (later_behind logs conns es) e
ends_behind logs conns (Err turn.Volume) es e = later_behind logs conns es e
ends_behind logs conns (Err turn.Full) es e = lone_behind es e

-- each label of the round has a copy more, of the mark behind it
abbrev Copies : World → World → List (List ℕ) → Type 0
Copies w v labels = v.copies ≡ copies_of (mark_of v) labels ++ w.copies

behind_copies : (es : List Entry) (w : World) → Behind es → Copies w (world_after es w) (labels_in w es)
behind_copies es w (inl none) = subst (λ (l : List Entry). Copies w (world_after l w) (labels_in w l)) (sym none) refl
behind_copies es w (inr e) =
    let first = Event e.paused e.busy e.ev e.bytes in
    let m = happens w first in
    let s = finishing_still e.conns e.rest m e.finishing in
    subst (λ (l : List Entry). Copies w (world_after l w) (labels_in w l)) (sym e.is) (s.copies ∙ ap (λ (k : Mark). copies_of k (labels_in w (first ∷ e.rest)) ++ w.copies) (sym s.mark))

dials_still : (calls : List Call) (w : World) → Still w (world_after (entries_of calls) w)
dials_still [] w = record { copies = refl; mark = refl }
dials_still (d ∷ ds) w = let r = dials_still ds (happens w (Dial d.host d.port d.answer)) in record { copies = r.copies; mark = r.mark }

labels_behind : (calls : List Call) (es : List Entry) (w : World) → labels_in w (entries_of calls ++ es) ≡ labels_in (world_after (entries_of calls) w) es
labels_behind [] es w = refl
labels_behind (d ∷ ds) es w = labels_behind ds es (happens w (Dial d.host d.port d.answer))

pub turn_copies : (is : Settings) (conns : List ℕ) (res : Result Outcome TurnErr) (es : List Entry) (w : World) → IsTurn is conns res es → (world_after es w).copies ≡ copies_of (mark_of (world_after es w)) (labels_in w es) ++ w.copies
turn_copies is conns res es w t =
    let u = world_after (entries_of t.calls) w in
    let v = world_after t.behind u in
    let d = dials_still t.calls w in
    let c = behind_copies t.behind u (ends_behind is.logs _ res t.behind t.ends) in
    subst (λ (l : List Entry). Copies w (world_after l w) (labels_in w l)) (sym t.parts)
    (subst (λ (x : World). Copies w x (labels_in w (entries_of t.calls ++ t.behind))) (sym (after_more (entries_of t.calls) t.behind w))
    (c ∙ ap (λ (cs : List Copied). copies_of (mark_of v) (labels_in u t.behind) ++ cs) d.copies ∙ ap (λ (ls : List (List ℕ)). copies_of (mark_of v) ls ++ w.copies) (sym (labels_behind t.calls t.behind w))))

-- ---- the newest copy under a label

text_self : (x : List ℕ) → is_text x x ≡ true
text_self x = (bytes_eq-Decides x x).1 refl

-- it is one of them, and the newest copy is of that mark; or none of them, and it is what it was
data Newest (l : List ℕ) (m : Mark) (labels : List (List ℕ)) (cs : List Copied) : Type 0 where
  new : IsAmong l labels → copied_at l (copies_of m labels ++ cs) ≡ Some m → Newest l m labels cs
  old : (IsAmong l labels → ⊥) → copied_at l (copies_of m labels ++ cs) ≡ copied_at l cs → Newest l m labels cs

newest : (l : List ℕ) (m : Mark) (labels : List (List ℕ)) (cs : List Copied) → Newest l m labels cs
newest l m [] cs = old (λ is. is) refl
newest l m (x ∷ labels) cs = go (is_text x l) refl (newest l m labels cs)
  where
    at : Option Mark
    at = copied_at l (copies_of m labels ++ cs)

    go : (b : Bool) → is_text x l ≡ b → Newest l m labels cs → Newest l m (x ∷ labels) cs
    go true e n = new (inl (sym ((bytes_eq-Decides x l).0 e))) (cond-true (is_text x l) (Some m) at e)
    go false e (new is same) = new (inr is) (cond-false (is_text x l) (Some m) at e ∙ same)
    go false e (old none same) = old (λ is. ⊎_elim (λ is_x. absurd (let t : is_text x l ≡ true = (bytes_eq-Decides x l).1 (sym is_x) in cc)) none is) (cond-false (is_text x l) (Some m) at e ∙ same)

-- ---- between two turns

images_since : (calls : Calls) (t : ℕ) (ims : Files) → Images calls ims → ImagesSince calls t ims
images_since [] t ims are = are
images_since (c ∷ cs) t ims are = inl are

module _ (reopens : Files → Contents → Type 0) (l : List ℕ) where
  left_more : (ms ns : List Mark) (ims : Files) → ((c : Mark) → IsIn c ms → IsIn c ns) → IsLeft reopens ms ims → IsLeft reopens ns ims
  left_more ms ns ims more (inl broken) = inl broken
  left_more ms ns ims more (inr at) = inr (record { mark = at.mark; listed = more at.mark at.listed; stands = at.stands })

  pub copies_none : (w : World) (cs : Calls) → w.copies ≡ [] → CopiesSo reopens l w cs cs
  copies_none w cs none = record {
    moments = record { later = omega arith; each = λ t ims le some. inl some };
    last = subst (λ (os : List Copied). IsCopyOf reopens (copied_at l os) cs) (sym none) tt;
    unasked = λ e. refl;
  }

  -- what a round's copies leave
  round_leaves : (kept : Files) (m : Mark) (ns : List Mark) (a b c : Calls) (P : Files → Type 0) → StandFor reopens kept m → IsIn m ns → ((ims : Files) → P ims → IsLeft reopens ns ims) → CopyLeaves P a b → CopyMoments kept b c → CopyLeaves (IsLeft reopens ns) a c
  round_leaves kept m ns a b c P stand listed wider first next = record {
    later = omega (arith, first.later, next.later);
    each = λ t ims le some. ⊎_elim (λ was. before t ims le was) (λ left. go t ims le left) (next.each t ims (omega (arith, le, first.later)) some);
  }
    where
      before : (t : ℕ) (ims : Files) → t ≤ length a → ImagesSince b t ims → ImagesSince a t ims ⊎ IsLeft reopens ns ims
      before t ims le some = ⊎_elim (λ was. inl was) (λ p. inr (wider ims p)) (first.each t ims le some)

      go : (t : ℕ) (ims : Files) → t ≤ length a → LeftOfCopy kept b ims → ImagesSince a t ims ⊎ IsLeft reopens ns ims
      go t ims le (as_before are) = before t ims le (images_since b t ims are)
      go t ims le (unusable broken) = inr (inl broken)
      go t ims le (copied is) = inr (inr (record { mark = m; listed = listed; stands = record { files = kept; stand = stand; copy = is } }))

  -- where this holds the last copies were made, or there is none of the label
  pub copies_end : (M : Type 0) (kept : Files) (labels : List (List ℕ)) (w v : World) (n0 : Calls) (n1 n2 : Named) → StandFor reopens kept (mark_of v) → ((c : Mark) → IsIn c w.marks → IsIn c v.marks) → IsIn (mark_of v) v.marks → v.copies ≡ copies_of (mark_of v) labels ++ w.copies
      → RoundCopies kept labels n1 n2 → (M → AreMade kept labels n2 ⊎ (IsAmong l labels → ⊥)) → CopiesSo reopens l w n0 (n1.copies l) → CopyRun reopens l M v.marks (copied_at l v.copies) n0 (n2.copies l)
  copies_end M kept labels w v n0 n1 n2 stand marks listed is round made so = record {
    moments = round_leaves kept (mark_of v) v.marks n0 (n1.copies l) (n2.copies l) (IsLeft reopens w.marks) stand listed (λ ims p. left_more w.marks v.marks ims marks p) so.moments (round.moments l);
    last = λ came. subst (λ (cs : List Copied). IsCopyOf reopens (copied_at l cs) (n2.copies l)) (sym is) (last (made came) (newest l (mark_of v) labels w.copies));
    unasked = λ e. unasked (newest l (mark_of v) labels w.copies) (ap (copied_at l) (sym is) ∙ e);
  }
    where
      last : AreMade kept labels n2 ⊎ (IsAmong l labels → ⊥) → Newest l (mark_of v) labels w.copies → IsCopyOf reopens (copied_at l (copies_of (mark_of v) labels ++ w.copies)) (n2.copies l)
      last (inl made) (new among e) = subst (λ (o : Option Mark). IsCopyOf reopens o (n2.copies l)) (sym e) (λ ims are. record { files = kept; stand = stand; copy = (made.each l among).all ims are })
      last (inr out) (new among e) = absurd (out among)
      last which (old none e) = subst (λ (o : Option Mark). IsCopyOf reopens o (n2.copies l)) (sym e) (subst (IsCopyOf reopens (copied_at l w.copies)) (sym (round.others l none)) so.last)

      unasked : Newest l (mark_of v) labels w.copies → copied_at l (copies_of (mark_of v) labels ++ w.copies) ≡ None → n2.copies l ≡ n0
      unasked (new among e) none = absurd (let f = sym e ∙ none in cc)
      unasked (old out e) none = round.others l out ∙ so.unasked (sym e ∙ none)

  -- none was begun
  pub copies_same : (M : Type 0) (labels : List (List ℕ)) (w v : World) (n0 : Calls) (n1 n2 : Named) → n2 ≡ n1 → (M → (labels ≡ []) ⊎ (IsAmong l labels → ⊥)) → ((c : Mark) → IsIn c w.marks → IsIn c v.marks) → v.copies ≡ copies_of (mark_of v) labels ++ w.copies → CopiesSo reopens l w n0 (n1.copies l)
      → CopyRun reopens l M v.marks (copied_at l v.copies) n0 (n2.copies l)
  copies_same M labels w v n0 n1 n2 same none marks is so = record {
    moments = subst (λ (cs : Calls). CopyLeaves (IsLeft reopens v.marks) n0 cs) (sym here) (record { later = so.moments.later; each = λ t ims le some. ⊎_elim (λ was. inl was) (λ p. inr (left_more w.marks v.marks ims marks p)) (so.moments.each t ims le some) });
    last = λ came. subst (λ (o : Option Mark). IsCopyOf reopens o (n2.copies l)) (sym (ap (copied_at l) is ∙ same_at (none came) (newest l (mark_of v) labels w.copies))) (subst (IsCopyOf reopens (copied_at l w.copies)) (sym here) so.last);
    unasked = λ e. here ∙ so.unasked (unasked (newest l (mark_of v) labels w.copies) (ap (copied_at l) (sym is) ∙ e));
  }
    where
      here : n2.copies l ≡ n1.copies l
      here = ap (λ (n : Named). n.copies l) same

      same_at : (labels ≡ []) ⊎ (IsAmong l labels → ⊥) → Newest l (mark_of v) labels w.copies → copied_at l (copies_of (mark_of v) labels ++ w.copies) ≡ copied_at l w.copies
      same_at (inl none) which = ap (λ (ls : List (List ℕ)). copied_at l (copies_of (mark_of v) ls ++ w.copies)) none
      same_at (inr out) (new among e) = absurd (out among)
      same_at (inr out) (old none e) = e

      unasked : Newest l (mark_of v) labels w.copies → copied_at l (copies_of (mark_of v) labels ++ w.copies) ≡ None → copied_at l w.copies ≡ None
      unasked (new among e) out = absurd (let f = sym e ∙ out in cc)
      unasked (old none e) out = sym e ∙ out

  -- a round more, behind which the run goes on
  pub copies_more : (M : Type 0) (v : World) (n0 n2 : Calls) → M → CopyRun reopens l M v.marks (copied_at l v.copies) n0 n2 → CopiesSo reopens l v n0 n2
  copies_more M v n0 n2 came r = record { moments = r.moments; last = r.last came; unasked = r.unasked }

  -- and where it ended between two turns
  pub copies_stay : (M : Type 0) (w : World) (n0 n1 : Calls) → CopiesSo reopens l w n0 n1 → CopyRun reopens l M w.marks (copied_at l w.copies) n0 n1
  copies_stay M w n0 n1 so = record { moments = so.moments; last = λ came. so.last; unasked = so.unasked }
