-- A text command, step by step.
use Rattle.std.proofs.Common.{◌≡◌, ◌≤◌, ◌<◌, ◌+◌, ◌-◌, ◌^◌, ◌⊎◌, inl, inr, ⊎_elim, ℕ, Bool, true, false, not, List, [], ◌∷◌, ◌++◌, length, take, drop, get_or, refl, sym, ap, subst, ◌∙◌, arith, append_assoc, length-append}
use Rattle.std.proofs.Math.Seq.{take-append_seam}
use Rattle.std.proofs.lemmas.Bool.{cond-false, cond-true, le-leb, lt-leb}
use Rattle.std.proofs.lemmas.List.{append-nil, take-append-drop, take_all, take_more}
use Rattle.std.specs.Prelude.{codes, decimal, is_some, ◌&&◌, ◌||◌, Option, Some, None, option_and_then, option_map, nat_le, if◌then◌else◌}
use Rattle.std.specs.Option.{ForSome}
use Rattle.tc_base.specs.Files.{Files}
use Rattle.tc_base.specs.Labels.{is_label}
use Rattle.tc_base.specs.declared.request.Request.{Request}
use Rattle.tc_base.specs.declared.request.Request.TheVariants as request
use Rattle.tc_space.specs.Frames.{Keeps, only_reads_then, others_then}
use Rattle.tc_space.specs.declared.space.Space.{Ghosts}
use Rattle.ty_wire.specs.Prefixes.{IsPrefix}
use Rattle.ty_wire.specs.Spelling.{Fits, spelling}
use Rattle.ty_memc.specs.declared.text.Piece.TheVariants as piece
use Rattle.ty_memc.specs.declared.text.Text.{Text}
use Rattle.ty_memc.specs.declared.text.Text.TheVariants.{Store, Get, Delete, Count, Flush, Version, Other}
use Rattle.ty_memc.specs.declared.text.Then.{Then}
use Rattle.ty_memc.specs.declared.text.Then.TheVariants.{Say, Do}
use Rattle.ty_memc.specs.declared.text.Word.TheVariants.{Set, Add, Replace, Append}
use Rattle.ty_memc.specs.Answers.{IsAsked, asked, count_on, counted, does_if, is_quiet, line, server_error, then_by, then_of, value_lines, values}
use Rattle.ty_memc.specs.Fitting.{ThenFits}
use Rattle.ty_memc.specs.Lines.{number}
use Rattle.tc_model.specs.Apply.{apply, updates}
use Rattle.tc_model.specs.Applying.{Applies}
use Rattle.tc_model.specs.Packing.{is_optimize}
use Rattle.tc_model.specs.declared.applied.Applied.{Applied}
use Rattle.tc_model.specs.Contents.{Contents, Walk}
use Rattle.ty_pieces.specs.Pieces.{Done, asks_step, bounded, done, got, text_done, then_done}
use Rattle.ty_base.specs.Holding.{Declines, Held, IsEarlier, IsReady, Layout, Leaves, ReadsHeld, numbers_stay, numbers_then}
use Rattle.ty_ulog.specs.Updates.{IsUpdating}
use Rattle.ty_core.specs.declared.serving.Served.{Served}
use Rattle.ty_core.specs.Serving.{AsksFit, FillsPiece, Notes, Serves, ServesPiece, entries, reply_most, text_writes}
use Rattle.ty_core.specs.Texts.{AddsValues, Fetches, FetchesFirst, FillsThen, Gathers, IsPlain, ServesThen, ended, lines, value_if}
use Rattle.ty_core.proofs.Fronts.{copied_update, for_none, kept_bytes, notes_of}

-- ---- what it asks for

by_value : (t : Text) (o : Option (List ℕ)) → ThenFits (then_by (λ _. o) t) → ThenFits (then_of t o)
by_value (Store Set key value quiet) o fits = fits
by_value (Store Add key value quiet) o fits = fits
by_value (Store Replace key value quiet) o fits = fits
by_value (Store Append key value quiet) o fits = fits
by_value (Get keys) o fits = tt
by_value (Delete key quiet) o fits = fits
by_value (Count key by down quiet) o fits = fits
by_value (Flush quiet) o fits = fits
by_value Version o fits = fits
by_value Other o fits = fits

pub plain_of : (t : Text) → ((keys : List (List ℕ)) → t ≡ Get keys → ⊥) → IsPlain t
plain_of (Get keys) other = other keys refl
plain_of (Store word key value quiet) other = tt
plain_of (Delete key quiet) other = tt
plain_of (Count key by down quiet) other = tt
plain_of (Flush quiet) other = tt
plain_of Version other = tt
plain_of Other other = tt

-- whatever value its key has
pub of_fits : (t : Text) (o : Option (List ℕ)) → AsksFit t → ThenFits (then_of t o)
of_fits t o fits = by_value t o (fits (λ _. o))

pub asked_plain : (look : List ℕ → Option (List ℕ)) (t : Text) → IsPlain t → then_by look t ≡ then_of t (option_and_then look (asked t))
asked_plain look (Get keys) plain = absurd plain
asked_plain look (Store word key value quiet) plain = refl
asked_plain look (Delete key quiet) plain = refl
asked_plain look (Count key by down quiet) plain = refl
asked_plain look (Flush quiet) plain = refl
asked_plain look Version plain = refl
asked_plain look Other plain = refl

-- a reply that no reply is longer than
abbrev pub Short : Then → Type 0
Short (Say bytes) = length bytes ≤ 67108864
Short (Do r bytes) = length bytes ≤ 67108864

line_short : (quiet : Bool) (text : List ℕ) → length text ≤ 16777216 → length (line quiet text) ≤ 67108864
line_short true text le = omega arith
line_short false text le = omega (arith, le, length-append text (codes "\r\n"))

if_short : (wanted quiet : Bool) (r : Request) → Short (does_if wanted quiet r)
if_short true quiet r = line_short quiet (codes "STORED") (omega arith)
if_short false quiet r = line_short quiet (codes "NOT_STORED") (omega arith)

count_short : (key : List ℕ) (down : Bool) (by : ℕ) (quiet : Bool) (o : Option ℕ) → ThenFits (count_on key down by quiet o) → Short (count_on key down by quiet o)
count_short key down by quiet None fits = line_short quiet (codes "CLIENT_ERROR cannot increment or decrement non-numeric value") (omega arith)
count_short key down by quiet (Some n) fits = line_short quiet (decimal (counted down by n)) (put_value key (decimal (counted down by n)) fits.2)
  where
    put_value : (key value : List ℕ) → Fits (request.Put key value) → length value ≤ 16777216
    put_value key value f = f.0.1.0

pub of_short : (t : Text) (o : Option (List ℕ)) → ThenFits (then_of t o) → Short (then_of t o)
of_short (Store Set key value quiet) o fits = if_short true quiet (request.Put key value)
of_short (Store Add key value quiet) o fits = if_short (not (is_some o)) quiet (request.PutKeep key value)
of_short (Store Replace key value quiet) o fits = if_short (is_some o) quiet (request.Put key value)
of_short (Store Append key value quiet) o fits = if_short (is_some o) quiet (request.PutCat key value)
of_short (Delete key quiet) None fits = line_short quiet (codes "NOT_FOUND") (omega arith)
of_short (Delete key quiet) (Some held) fits = line_short quiet (codes "DELETED") (omega arith)
of_short (Count key by down quiet) None fits = line_short quiet (codes "NOT_FOUND") (omega arith)
of_short (Count key by down quiet) (Some held) fits = count_short key down by quiet (number 20 (2 ^ 64 - 1) held) fits
of_short (Flush quiet) o fits = line_short quiet (codes "OK") (omega arith)
of_short Version o fits = line_short false (codes "VERSION 1.1") (omega arith)
of_short Other o fits = line_short false (codes "ERROR") (omega arith)
of_short (Get keys) o fits = omega arith

pub error_short : (quiet : Bool) → length (server_error quiet) ≤ 14
error_short true = omega arith
error_short false = omega arith

pub bounded_short : (bytes : List ℕ) → length bytes ≤ 67108864 → bounded bytes ≡ bytes
bounded_short bytes le = cond-true (nat_le (length bytes) 67108864) bytes (server_error false) (le-leb (length bytes) 67108864 le)

pub bounded_long : (bytes : List ℕ) → 67108864 < length bytes → bounded bytes ≡ server_error false
bounded_long bytes more = cond-false (nat_le (length bytes) 67108864) bytes (server_error false) (lt-leb (length bytes) 67108864 more)

writes_do : (t : Text) (o : Option (List ℕ)) (r : Request) (bytes : List ℕ) → then_of t o ≡ Do r bytes → text_writes t ≡ true
writes_do (Store word key value quiet) o r bytes is = refl
writes_do (Delete key quiet) o r bytes is = refl
writes_do (Count key by down quiet) o r bytes is = refl
writes_do (Flush quiet) o r bytes is = refl
writes_do Version o r bytes is = absurd cc
writes_do Other o r bytes is = absurd cc
writes_do (Get keys) o r bytes is = absurd cc

text_says : (replica : Bool) (t : Text) (c : Contents) (w : Walk) (x : Then) → then_by (got replica c w) t ≡ x → text_done replica t c w ≡ then_done replica (is_quiet t) x c w
unfolding text_done
text_says replica t c w x is = ap (λ (z : Then). then_done replica (is_quiet t) z c w) is

-- ---- what is left to do

-- nothing
pub record IsNothing (d : Served) : Type 0 where
  pub commits : d.commits ≡ false
  pub feeds : d.feeds ≡ None
  pub update : d.update ≡ None
  pub copy : d.copy ≡ None

module _ {S B : Type 0} (s : Ghosts S) (holds : B → Files → Contents → Type 0) where
  pub says_piece : (replica logs : Bool) (t : Text) (bytes : List ℕ) (d : Served) (base base' : B) (old new : S) (w : Walk) (waiting waiting' : List ℕ) → IsNothing d → ((c : Contents) → Held s holds base old c → then_by (got replica c w) t ≡ Say bytes) → ReadsHeld s holds base base' old new
      → length waiting' ≤ length waiting + 67108864 → waiting' ≡ waiting ++ bounded bytes → ServesPiece s holds replica logs (piece.Text t) d base base' old new w w waiting waiting'
  says_piece replica logs t bytes d base base' old new w waiting waiting' n says reads few is = record {
    feeds = n.feeds;
    notes = record { asked = λ off. n.update; blocked = λ on. n.update; idle = λ none. n.update; noted = subst (λ (o : Option (List ℕ)). ForSome o IsUpdating) (sym n.update) (for_none IsUpdating); labelled = subst (λ (o : Option (List ℕ)). ForSome o (λ l. is_label l ≡ true)) (sym n.copy) (for_none (λ l. is_label l ≡ true)) };
    few = omega (arith, few, ap reply_most n.feeds);
    serves = λ c h. (
      c,
      reads.means c h,
      subst (λ (e : Done). Serves logs e d c w waiting waiting') (sym (text_says replica t c w (Say bytes) (says c h)))
          (record { contents = refl; walk = refl; waiting_is = is; commits = n.commits; update = λ on. ap entries n.update; copy = ap entries n.copy }),
    );
  }

  pub does_piece : (replica logs : Bool) (t : Text) (r : Request) (quiet : Bool) (bytes : List ℕ) (d : Served) (base mid base' : B) (old m new : S) (w w' : Walk) (waiting waiting' : List ℕ) → quiet ≡ is_quiet t → ((c : Contents) → Held s holds base old c → then_by (got replica c w) t ≡ Do r bytes)
      → ReadsHeld s holds base mid old m → ServesThen s holds replica logs r quiet bytes d mid base' m new w w' waiting waiting' → ServesPiece s holds replica logs (piece.Text t) d base base' old new w w' waiting waiting'
  does_piece replica logs t r quiet bytes d base mid base' old m new w w' waiting waiting' same does reads x = record {
    feeds = x.feeds;
    notes = x.notes;
    few = let few = x.few in omega (arith, few, ap reply_most x.feeds);
    serves = λ c h. let y = x.serves c (reads.means c h) in (
      y.0,
      y.1,
      subst (λ (e : Done). Serves logs e d y.0 w' waiting waiting') (sym (text_says replica t c w (Do r bytes) (does c h) ∙ ap (λ (q : Bool). then_done replica q (Do r bytes) c w) (sym same))) y.2,
    );
  }

  pub does_full : (fills since : Contents → Contents → Type 0) (replica : Bool) (t : Text) (o : Option (List ℕ)) (r : Request) (bytes : List ℕ) (base mid : B) (old m : S) (w : Walk) → ((c d : Contents) → s.tells → fills c d → since c d) → then_of t o ≡ Do r bytes
      → ((c : Contents) → Held s holds base old c → then_by (got replica c w) t ≡ Do r bytes) → ReadsHeld s holds base mid old m → FillsThen s holds fills replica r mid m w → FillsPiece s holds since replica (piece.Text t) base old w
  does_full fills since replica t o r bytes base mid old m w wider is does reads f = record {
    writes = writes_do t o r bytes is;
    packs = λ packs. absurd cc;
    by = λ c h. wider c (done replica (piece.Text t) c w).made.contents h.0 (subst (λ (e : Done). fills c e.made.contents) (sym (text_says replica t c w (Do r bytes) (does c h))) (f.by c (reads.means c h)));
  }

  -- a refusal, whatever walk
  pub declines_alone : (base base' : B) (old new : S) (w w' v : Walk) → Declines s holds base base' old new w w' → Declines s holds base base' old new v v
  declines_alone base base' old new w w' v d = ⊎_elim (λ spoiled. inl spoiled) (λ r. inr (r.0, refl)) d

  -- one behind what was only read
  pub declines_behind : (base mid base' : B) (old m new : S) (w w' : Walk) → ReadsHeld s holds base mid old m → Declines s holds mid base' m new w w' → Declines s holds base base' old new w w'
  declines_behind base mid base' old m new w w' reads d = ⊎_elim (λ spoiled. inl spoiled) (λ r. inr (record { now = λ t g. r.0.now t g ∙ reads.now t g; touched = r.0.touched ∙ reads.touched; sound = r.0.sound; means = λ c h. r.0.means c (reads.means c h) }, r.1)) d

  -- what was read may be followed
  ready_behind : (base mid : B) (old m : S) → (s.tells → (c : Contents) × holds base (s.now old) c) → ReadsHeld s holds base mid old m → s.tells → (c : Contents) × holds mid (s.now m) c
  ready_behind base mid old m held reads t = let h = held t in (h.0, (reads.means h.0 (t, h.1)).1)

  pub ready_after : (base mid : B) (old m : S) → IsReady s holds base old → ReadsHeld s holds base mid old m → IsReady s holds mid m
  ready_after base mid old m ready reads = record { sound = reads.sound; held = ready_behind base mid old m ready.held reads }

  -- the key that is asked for first
  pub fetches_first : (t : Text) (key : List ℕ) (is : Bool) (base : B) (old : S) (bytes : List ℕ) → Some key ≡ asked t → Fetches s holds base old key is bytes → FetchesFirst s holds base old t is bytes
  fetches_first t key is base old bytes asks f = record { long = f.long; value = λ replica w c h. f.value replica w c h ∙ ap (λ (o : Option (List ℕ)). option_and_then (got replica c w) o) asks }

  pub fetches_none : (t : Text) (base : B) (old : S) (bytes : List ℕ) → None ≡ asked t → FetchesFirst s holds base old t false bytes
  fetches_none t base old bytes asks = record { long = λ c h is. absurd cc; value = λ replica w c h. ap (λ (o : Option (List ℕ)). option_and_then (got replica c w) o) asks }

  -- the reply to a get came
  pub gets_piece : (replica logs : Bool) (t : Text) (keys : List (List ℕ)) (d : Served) (base base' : B) (old new : S) (w : Walk) (waiting waiting' : List ℕ) → t ≡ Get keys → IsNothing d → ReadsHeld s holds base base' old new
      → length waiting' ≤ length waiting + 67108864 → AddsValues s holds base old keys waiting waiting' → ServesPiece s holds replica logs (piece.Text t) d base base' old new w w waiting waiting'
  gets_piece replica logs t keys d base base' old new w waiting waiting' is n reads few adds = record {
    feeds = n.feeds;
    notes = record { asked = λ off. n.update; blocked = λ on. n.update; idle = λ none. n.update; noted = subst (λ (o : Option (List ℕ)). ForSome o IsUpdating) (sym n.update) (for_none IsUpdating); labelled = subst (λ (o : Option (List ℕ)). ForSome o (λ l. is_label l ≡ true)) (sym n.copy) (for_none (λ l. is_label l ≡ true)) };
    few = omega (arith, few, ap reply_most n.feeds);
    serves = λ c h. (
      c,
      reads.means c h,
      subst (λ (e : Done). Serves logs e d c w waiting waiting') (sym (text_says replica t c w (Say (values (got replica c w) keys)) (ap (then_by (got replica c w)) is)))
          (record { contents = refl; walk = refl; waiting_is = adds replica w c h; commits = n.commits; update = λ on. ap entries n.update; copy = ap entries n.copy }),
    );
  }

  -- where nothing was written
  pub leaves_read : (own : ℕ → Type 0) (layout : Files → Layout) (idle : Type 0) (base base' : B) (old new : S) → Keeps s old new → ReadsHeld s holds base base' old new → Leaves s own layout idle old new
  leaves_read own layout idle base base' old new keeps reads = record {
    sound = reads.sound;
    others = record { same = λ t g other. reads.now t g };
    numbered = λ t. numbers_stay (layout (s.now old)) (layout (s.now new)) (λ i. layout (λ g. reads.now t g i));
    reads = λ none. record { keeps = keeps; files = reads.now; untouched = reads.touched; is_sound = reads.sound };
  }

  -- what is left behind what was only read
  pub leaves_behind : (own : ℕ → Type 0) (layout : Files → Layout) (idle : Type 0) (base mid : B) (old m new : S) → Keeps s old m → ReadsHeld s holds base mid old m → Leaves s own layout idle m new → Leaves s own layout idle old new
  leaves_behind own layout idle base mid old m new keeps reads l =
      let first : Leaves s own layout idle old m = leaves_read own layout idle base mid old m keeps reads in
      record {
        sound = l.sound;
        others = others_then s own old m new first.others l.others;
        numbered = λ t. numbers_then (layout (s.now old)) (layout (s.now m)) (layout (s.now new)) (first.numbered t) (l.numbered t);
        reads = λ none. only_reads_then s old m new (first.reads none) (l.reads none);
      }

  -- a limit that was met behind what was only read
  pub since_behind : (fills : B → S → S → Contents → Contents → Type 0) (since : S → S → Contents → Contents → Type 0) (lacks : S → S → Contents → Type 0) → ((b : B) (a n : S) (c d : Contents) → fills b a n c d → since a n c d)
      → ((a b n : S) → s.moment a ≤ s.moment b → IsEarlier s.now since lacks a b n) → (mid : B) (old m new : S) → Keeps s old m → (c d : Contents) → s.tells → fills mid m new c d → since old new c d
  since_behind fills since lacks forget more mid old m new keeps c d t f = (more old m new (keeps.steady t).past.later).fills c d (forget mid m new c d f)

-- ---- the request that it asks for

pub asked_updates : (r : Request) → IsAsked r → updates r ≡ true
asked_updates (request.Put key value) asked = refl
asked_updates (request.PutKeep key value) asked = refl
asked_updates (request.PutCat key value) asked = refl
asked_updates (request.Out key) asked = refl
asked_updates request.Vanish asked = refl
asked_updates _ asked = absurd asked

pub asked_stays : (r : Request) → IsAsked r → is_optimize r ≡ false
asked_stays (request.Put key value) asked = refl
asked_stays (request.PutKeep key value) asked = refl
asked_stays (request.PutCat key value) asked = refl
asked_stays (request.Out key) asked = refl
asked_stays request.Vanish asked = refl
asked_stays _ asked = absurd asked

-- the bytes that were asked for, and are kept where it updated
abbrev pub record_by : Bool → Bool → Request → Option (List ℕ)
record_by updated logs r = if updated then (if logs then Some (spelling r) else None) else None

asked_kept : (updated logs : Bool) (r : Request) → IsAsked r → record_by updated logs r ≡ kept_bytes updated logs r
asked_kept updated logs r asked = ap (λ (b : Bool). if updated then (if b then Some (spelling r) else None) else None) (sym (both logs (updates r) (asked_updates r asked)))
  where
    both : (l u : Bool) → u ≡ true → (l && u) ≡ l
    both true u e = e
    both false u e = refl

or_none : (b : Bool) → (b || false) ≡ b
or_none true = refl
or_none false = refl

pub asked_notes : (replica logs : Bool) (r : Request) (d : Served) (updated : Bool) → IsAsked r → Fits r → ((replica && updates r) ≡ true → updated ≡ false) → d.commits ≡ updated → d.update ≡ record_by updated logs r → d.copy ≡ None → Notes replica logs d
asked_notes replica logs r d updated asked fits blocks commits update none =
    notes_of replica logs r d updated false fits blocks (commits ∙ sym (or_none updated)) (update ∙ asked_kept updated logs r asked) (subst (λ (o : Option (List ℕ)). ForSome o (λ l. is_label l ≡ true)) (sym none) (for_none (λ l. is_label l ≡ true)))

pub reply_few : (ok quiet : Bool) (reply waiting waiting' : List ℕ) → length reply ≤ 67108864 → waiting' ≡ waiting ++ (if ok then reply else server_error quiet) → length waiting' ≤ length waiting + 67108864
reply_few true quiet reply waiting waiting' short is = omega (arith, short, ap length is, length-append waiting reply)
reply_few false quiet reply waiting waiting' short is = omega (arith, ap length is, length-append waiting (server_error quiet), error_short quiet)

pub said_few : (bytes waiting waiting' : List ℕ) → length bytes ≤ 67108864 → waiting' ≡ waiting ++ bytes → length waiting' ≤ length waiting + 67108864
said_few bytes waiting waiting' short is = omega (arith, short, ap length is, length-append waiting bytes)

pub asked_serves : (replica logs quiet : Bool) (r : Request) (reply : List ℕ) (a : Applied) (d : Served) (c c' : Contents) (w w' : Walk) (waiting waiting' bytes bytes' : List ℕ) → IsAsked r → length reply ≤ 67108864 → waiting' ≡ waiting ++ (if a.ok then reply else server_error quiet)
    → d.commits ≡ a.updated → d.update ≡ record_by a.updated logs r → d.copy ≡ None → Applies (apply replica r c w) r a c' w' bytes bytes' → Serves logs (asks_step quiet r reply (apply replica r c w)) d c' w' waiting waiting'
asked_serves replica logs quiet r reply a d c c' w w' waiting waiting' bytes bytes' asked short is commits update copy applied = record {
  contents = applied.contents;
  walk = applied.walk;
  waiting_is = is ∙ (ap (λ (b : Bool). waiting ++ (if b then reply else server_error quiet)) applied.ok ∙ ap (λ (l : List ℕ). waiting ++ (if (apply replica r c w).ok then l else server_error quiet)) (sym (bounded_short reply short)));
  commits = commits ∙ applied.updated;
  update = λ on. ap entries (update ∙ asked_kept a.updated logs r asked) ∙ copied_update logs r (apply replica r c w) a.updated applied.updated on;
  copy = ap entries copy;
}

-- the value of its key, from the bytes that hold it
pub seen_as : (is : Bool) (bytes into : List ℕ) (o value : Option (List ℕ)) → bytes ≡ into → ((is ≡ true → 5 ≤ length bytes) → o ≡ value_if is bytes) → (is ≡ true → 5 ≤ length into) → value_if is into ≡ value → o ≡ value
seen_as is bytes into o value same sees long held = sees (λ t. subst (λ (l : List ℕ). 5 ≤ length l) (sym same) (long t)) ∙ (ap (value_if is) same ∙ held)

-- what a command that is no get makes of the value of its key
pub plain_does : (look : List ℕ → Option (List ℕ)) (t : Text) (o : Option (List ℕ)) (x : Then) → IsPlain t → o ≡ option_and_then look (asked t) → x ≡ then_of t o → then_by look t ≡ x
plain_does look t o x plain value is = asked_plain look t plain ∙ (ap (then_of t) (sym value) ∙ sym is)

-- what it asks for is within limits, and its reply short
pub record IsFine (x : Then) : Type 0 where
  pub fits : ThenFits x
  pub short : Short x

pub then_fine : (t : Text) (o : Option (List ℕ)) (x : Then) → AsksFit t → x ≡ then_of t o → IsFine x
then_fine t o x fits is = subst IsFine (sym is) (record { fits = of_fits t o fits; short = of_short t o (of_fits t o fits) })

-- nothing came behind the bytes
pub front_same : (old new : List ℕ) → new ≡ old → IsPrefix old new
front_same old new is = ([], is ∙ sym (append-nil old))

-- ---- a get

pub lines_more : (look : List ℕ → Option (List ℕ)) (keys : List (List ℕ)) (key : List ℕ) → lines look (keys ++ key ∷ []) ≡ lines look keys ++ value_lines key (look key)
lines_more look [] key = append-nil (value_lines key (look key))
lines_more look (k ∷ keys) key = ap (λ (l : List ℕ). value_lines k (look k) ++ l) (lines_more look keys key) ∙ sym (append_assoc (value_lines k (look k)) (lines look keys) (value_lines key (look key)))

lines_parts : (look : List ℕ → Option (List ℕ)) (front back : List (List ℕ)) → lines look (front ++ back) ≡ lines look front ++ lines look back
lines_parts look [] back = refl
lines_parts look (k ∷ front) back = ap (λ (l : List ℕ). value_lines k (look k) ++ l) (lines_parts look front back) ∙ sym (append_assoc (value_lines k (look k)) (lines look front) (lines look back))

-- so many that the reply is too long
pub too_long : (look : List ℕ → Option (List ℕ)) (front back : List (List ℕ)) → 67108859 < length (lines look front) → 67108864 < length (values look (front ++ back))
too_long look front back many =
    let parts = lines_parts look front back in
    omega (arith, many, ap length parts, length-append (lines look front) (lines look back), length-append (lines look (front ++ back)) (codes "END\r\n"))

-- one key more
pub lines_next : (look : List ℕ → Option (List ℕ)) (keys : List (List ℕ)) (i : ℕ) (key waiting mid new : List ℕ) → i < length keys → key ≡ get_or keys i key → mid ≡ waiting ++ lines look (take i keys) → new ≡ mid ++ value_lines key (look key)
    → new ≡ waiting ++ lines look (take (i + 1) keys)
lines_next look keys i key waiting mid new lt is so came =
    let named : take (i + 1) keys ≡ take i keys ++ key ∷ [] = take_more keys i key lt ∙ ap (λ (k : List ℕ). take i keys ++ k ∷ []) (sym is) in
    came
    ∙ (ap (λ (l : List ℕ). l ++ value_lines key (look key)) so
    ∙ (append_assoc waiting (lines look (take i keys)) (value_lines key (look key)) ∙ ap (λ (l : List ℕ). waiting ++ l) (sym (ap (lines look) named ∙ lines_more look (take i keys) key))))

pub long_at : (look : List ℕ → Option (List ℕ)) (items keys : List (List ℕ)) (i : ℕ) (waiting new : List ℕ) → items ≡ keys → new ≡ waiting ++ lines look (take i items) → length waiting + 67108859 < length new → 67108864 < length (values look keys)
long_at look items keys i waiting new same is more = subst (λ (ks : List (List ℕ)). 67108864 < length (values look ks)) (take-append-drop i items ∙ same) (too_long look (take i items) (drop i items) (omega (arith, more, ap length is, length-append waiting (lines look (take i items)))))

pub lines_all : (look : List ℕ → Option (List ℕ)) (items keys : List (List ℕ)) (i : ℕ) (waiting new : List ℕ) → items ≡ keys → length items ≤ i → new ≡ waiting ++ lines look (take i items) → new ≡ waiting ++ lines look keys
lines_all look items keys i waiting new same le is = is ∙ ap (λ (ks : List (List ℕ)). waiting ++ lines look ks) (take_all i items le ∙ same)

-- the lines of all keys, and the line that ends them
pub all_came : (look : List ℕ → Option (List ℕ)) (keys : List (List ℕ)) (waiting mid waiting' : List ℕ) → mid ≡ waiting ++ lines look keys → length mid + 5 ≤ length waiting + 67108864 → waiting' ≡ mid ++ codes "END\r\n" → waiting' ≡ waiting ++ bounded (values look keys)
all_came look keys waiting mid waiting' came few is =
    let short : length (values look keys) ≤ 67108864 = omega (arith, few, ap length came, length-append waiting (lines look keys), length-append (lines look keys) (codes "END\r\n")) in
    is ∙ (ap (λ (l : List ℕ). l ++ codes "END\r\n") came ∙ (append_assoc waiting (lines look keys) (codes "END\r\n") ∙ ap (λ (l : List ℕ). waiting ++ l) (sym (bounded_short (values look keys) short))))

-- the front that was there
pub cut_back : (waiting mid : List ℕ) → IsPrefix waiting mid → take (length waiting) mid ≡ waiting
cut_back waiting mid front = ap (take (length waiting)) front.1 ∙ take-append_seam waiting front.0

pub none_came : (look : List ℕ → Option (List ℕ)) (keys : List (List ℕ)) (waiting mid cut waiting' : List ℕ) → IsPrefix waiting mid → cut ≡ take (length waiting) mid → 67108864 < length (values look keys) → waiting' ≡ cut ++ server_error false → waiting' ≡ waiting ++ bounded (values look keys)
none_came look keys waiting mid cut waiting' front is long came =
    came ∙ (ap (λ (l : List ℕ). l ++ server_error false) (is ∙ cut_back waiting mid front) ∙ ap (λ (l : List ℕ). waiting ++ l) (sym (bounded_long (values look keys) long)))

-- the reply to a get, whichever way it ended
pub values_came : (look : List ℕ → Option (List ℕ)) (keys : List (List ℕ)) (fits : Bool) (before : ℕ) (waiting mid waiting' : List ℕ) → IsPrefix waiting mid → before ≡ length waiting → Gathers look keys fits waiting mid → (fits ≡ true → length mid + 5 ≤ length waiting + 67108864)
    → waiting' ≡ ended fits before mid → waiting' ≡ waiting ++ bounded (values look keys)
values_came look keys true before waiting mid waiting' front at g few is = all_came look keys waiting mid waiting' (g.all refl) (few refl) is
values_came look keys false before waiting mid waiting' front at g few is = none_came look keys waiting mid (take before mid) waiting' front (ap (λ (n : ℕ). take n mid) at) (g.long refl) is

pub ended_few : (fits : Bool) (before : ℕ) (waiting mid waiting' : List ℕ) → IsPrefix waiting mid → before ≡ length waiting → (fits ≡ true → length mid + 5 ≤ length waiting + 67108864) → waiting' ≡ ended fits before mid → length waiting' ≤ length waiting + 67108864
ended_few true before waiting mid waiting' front at few is = let short = few refl in omega (arith, short, ap length is, length-append mid (codes "END\r\n"))
ended_few false before waiting mid waiting' front at few is = said_few (server_error false) waiting waiting' (omega (arith, error_short false)) (is ∙ ap (λ (l : List ℕ). l ++ server_error false) (ap (λ (n : ℕ). take n mid) at ∙ cut_back waiting mid front))

pub ended_front : (fits : Bool) (before : ℕ) (waiting mid waiting' : List ℕ) → IsPrefix waiting mid → before ≡ length waiting → waiting' ≡ ended fits before mid → IsPrefix waiting waiting'
ended_front true before waiting mid waiting' front at is = (front.0 ++ codes "END\r\n", is ∙ (ap (λ (l : List ℕ). l ++ codes "END\r\n") front.1 ∙ append_assoc waiting front.0 (codes "END\r\n")))
ended_front false before waiting mid waiting' front at is = (server_error false, is ∙ ap (λ (l : List ℕ). l ++ server_error false) (ap (λ (n : ℕ). take n mid) at ∙ cut_back waiting mid front))

-- a refusal leaves them
pub unended_front : (before : ℕ) (waiting mid waiting' : List ℕ) → IsPrefix waiting mid → before ≡ length waiting → IsPrefix (take before mid) waiting' → IsPrefix waiting waiting'
unended_front before waiting mid waiting' front at left = subst (λ (l : List ℕ). IsPrefix l waiting') (ap (λ (n : ℕ). take n mid) at ∙ cut_back waiting mid front) left

pub front_cut : (before : ℕ) (old new : List ℕ) → new ≡ old → IsPrefix (take before old) new
front_cut before old new is = (drop before old, is ∙ sym (take-append-drop before old))
