-- A piece at the front, by its reading and by its spelling, and what is left to do behind it.
use Rattle.std.proofs.Common.{◌≡◌, ℕ, ◌≤◌, Bool, true, false, List, [], ◌∷◌, ◌++◌, length, take, drop, sym, ap, subst, ◌∙◌, arith, length-append, length-drop, refl}
use Rattle.std.proofs.lemmas.Bool.{and_parts, eqb-true}
use Rattle.std.proofs.lemmas.List.{append_cancel_right, drop-append-le, take-append-drop}
use Rattle.std.specs.Prelude.{is_ok, nat_eq, Ok, ◌&&◌, ◌||◌, Option, Some, None, if◌then◌else◌}
use Rattle.std.specs.Option.{ForSome}
use Rattle.tc_base.proofs.Exact.{same_whole}
use Rattle.tc_base.specs.Bytes.{IsBytes}
use Rattle.tc_base.specs.Files.{Files}
use Rattle.tc_base.specs.declared.kind.Form.{Form}
use Rattle.tc_base.specs.declared.request.Request.{Request}
use Rattle.tc_base.specs.declared.request.Request.TheVariants.{Put, PutKeep, PutCat, PutShl, PutNr, Out, Get, MGet, Vsiz, IterInit, IterNext, FwmKeys, AddInt, AddDouble, Ext, Sync, Optimize, Vanish, Copy, Restore, SetMst, Rnum, Size, Stat, Misc, Repl}
use Rattle.tc_base.specs.Labels.{is_label}
use Rattle.tc_base.specs.declared.request.Reply.TheVariants as reply
use Rattle.tc_model.specs.Apply.{Step, apply, is_updated, refusal_of, tells, took, updates}
use Rattle.tc_model.specs.Applying.{Applies}
use Rattle.tc_model.specs.declared.applied.Applied.{Applied}
use Rattle.tc_model.specs.Contents.{Contents, Walk, is_stored, kind_of}
use Rattle.tc_model.specs.Packing.{is_optimize}
use Rattle.tc_model.proofs.Updating.{apply_refused, apply_same}
use Rattle.tc_space.specs.declared.space.Space.{Ghosts}
use Rattle.ty_wire.specs.Prefixes.{IsPrefix}
use Rattle.ty_wire.specs.Spelling.{spelling, reply_bytes, Fits}
use Rattle.ty_wire.proofs.UpdateTest.{updates_only}
use Rattle.ty_memc.specs.declared.text.Text.{Text}
use Rattle.ty_memc.specs.declared.text.Piece.{Piece}
use Rattle.ty_memc.specs.declared.text.Piece.TheVariants as piece
use Rattle.ty_memc.specs.Grammar.{Spells, piece_at}
use Rattle.ty_memc.proofs.PieceGrammar.{Found, found_request, found_text, found, pieces}
use Rattle.ty_memc.proofs.Asking.{asked_fits}
use Rattle.ty_base.specs.Holding as holding
use Rattle.ty_base.specs.Holding.{ServedBy}
use Rattle.ty_pieces.specs.Made.{only}
use Rattle.ty_pieces.specs.Pieces.{Done, done, labels_of, stepped}
use Rattle.ty_ulog.specs.Updates.{IsUpdating}
use Rattle.ty_core.specs.declared.serving.Served.{Served}
use Rattle.ty_core.specs.declared.taking.Taken.{Taken}
use Rattle.ty_core.specs.Labels.{label_in}
use Rattle.ty_core.specs.Serving.{FillsFront, FillsPiece, IsTaken, IsWhole, Notes, PieceFits, Serves, ServesFront, ServesPiece, TakesOff, TightFront, TightPiece, copy_of, entries, feed_of, is_kept, piece_packs}

pub refused_applies : (replica : Bool) (r : Request) (c : Contents) (w : Walk) (old new : List ℕ) → (replica && updates r) ≡ true → new ≡ old ++ reply_bytes (refusal_of r)
    → Applies (apply replica r c w) r (record { ok = false; updated = false }) c w old new
refused_applies replica r c w old new u e = let is = sym (apply_refused replica r c w u) in record {
  contents = ap (λ (s : Step). s.contents) is;
  walk = ap (λ (s : Step). s.walk) is;
  bytes = e ∙ ap (λ (s : Step). old ++ reply_bytes s.reply) is;
  ok = ap (λ (s : Step). s.ok) is;
  updated = ap (λ (s : Step). is_updated r s) is;
}

-- what serves on no replica does on one, where it doesn't update there
pub served_alike : {S B : Type 0} (s : Ghosts S) (holds : B → Files → Contents → Type 0) (replica : Bool) (r : Request) (a : Applied) (base base' : B) (x y : S) (w w' : Walk) (old new : List ℕ) → (replica && updates r) ≡ false → ServedBy s holds false r a base base' x y w w' old new
    → ServedBy s holds replica r a base base' x y w w' old new
served_alike s holds replica r a base base' x y w w' old new idle served c h = subst (λ (p : Step). holding.Serves s holds p r a base' y w' old new) (sym (apply_same replica r c w idle)) (served c h)

-- ---- the piece at the front

-- the piece that is read has the bytes that aren't left
pub front_is : (n : ℕ) (bytes : List ℕ) (x : Piece) → IsWhole n bytes → (rest : List ℕ) × (piece_at bytes ≡ Ok (x, rest)) → piece_at bytes ≡ Ok (x, drop n bytes)
front_is n bytes x is e =
    let s = same_whole x is.read.0 e.0 (drop n bytes) (sym e.1 ∙ is.read.2) in
    e.1 ∙ ap (λ (l : List ℕ). Ok (x, l)) s.1

pub is_ok_whole : (n : ℕ) (bytes : List ℕ) → IsWhole n bytes → is_ok (piece_at bytes) ≡ true
is_ok_whole n bytes is = ap is_ok is.read.2

kept_copy : (logs : Bool) (x : Piece) (own text : List ℕ) → own ≡ text → Spells x text → (if is_kept logs x then Some own else None) ≡ copy_of logs x
kept_copy logs (piece.Request r) own text is s = ap (λ (l : List ℕ). if logs && updates r then Some l else None) (is ∙ s.1)
kept_copy logs (piece.Text t) own text is s = refl

-- what is read is within its limits
piece_fits : (bytes : List ℕ) (x : Piece) (rest text : List ℕ) → piece_at bytes ≡ Ok (x, rest) → Spells x text → PieceFits x
piece_fits bytes x rest text e s = go (found bytes x rest e)
  where
    go : Found bytes x rest → PieceFits x
    go (found_request r is first reads) = subst PieceFits (sym is) (subst (λ (y : Piece). Spells y text) is s).0
    go (found_text t is first reads) = subst PieceFits (sym is) (λ look. asked_fits bytes t rest look reads)

pub small_taken : (n : ℕ) (bytes : List ℕ) (t : Taken) (logs : Bool) → IsBytes bytes → piece_at bytes ≡ Ok (t.piece, drop n bytes) → t.copied ≡ (if is_kept logs t.piece then Some (take n bytes) else None) → IsTaken t logs bytes (drop n bytes)
small_taken n bytes t logs b e copied =
    let f = pieces.found bytes t.piece (drop n bytes) b e in
    record {
      front = e;
      text = f.0;
      spells = f.1;
      spelled = f.2;
      may = record {
        fits = piece_fits bytes t.piece (drop n bytes) f.0 e f.1;
        copied = copied ∙ kept_copy logs t.piece (take n bytes) f.0 (append_cancel_right (take n bytes) f.0 (drop n bytes) (take-append-drop n bytes ∙ f.2)) f.1;
      };
    }

pub taken_off : (t : Taken) (logs : Bool) (unread rest : List ℕ) (d : Served) → IsTaken t logs unread rest → d.feeds ≡ feed_of t.piece → TakesOff t.piece d unread rest
taken_off t logs unread rest d k feeds = record { front = k.front; text = k.text; spells = k.spells; spelled = k.spelled; feeds = feeds }

-- the same bytes, where they are left
pub moved : (t : Taken) (logs : Bool) (bytes same rest : List ℕ) (n : ℕ) → bytes ≡ same → rest ≡ drop n same → IsTaken t logs bytes (drop n bytes) → IsTaken t logs same rest
moved t logs bytes same rest n is left k = subst (λ (l : List ℕ). IsTaken t logs same l) (sym left) (subst (λ (l : List ℕ). IsTaken t logs l (drop n l)) is k)

pub none_left : (l : List ℕ) → nat_eq (length l) 0 ≡ true → [] ≡ l
none_left [] e = refl
none_left (x ∷ l) e = absurd (let z : length (x ∷ l) ≡ 0 = eqb-true (length (x ∷ l)) 0 e in omega (arith, z))

-- ---- what is left to do

abbrev pub kept_bytes : Bool → Bool → Request → Option (List ℕ)
kept_bytes updated logs r = if updated then (if logs && updates r then Some (spelling r) else None) else None

-- bytes that were copied where the request might update, and are kept where it did
pub copied_update : (logs : Bool) (r : Request) (s : Step) (updated : Bool) → updated ≡ is_updated r s → logs ≡ true → entries (kept_bytes updated logs r) ≡ (stepped r s).made.updates
copied_update logs r s updated is asked = ap (λ (b : Bool). entries (kept_bytes b logs r)) is ∙ (ap (λ (b : Bool). entries (kept_bytes (is_updated r s) b r)) asked ∙ go s.ok (updates r) (spelling r))
  where
    go : (o u : Bool) (x : List ℕ) → entries (if o && u then (if true && u then Some x else None) else None) ≡ only (o && u) x
    go true true x = refl
    go true false x = refl
    go false true x = refl
    go false false x = refl

took_copy : (a b : Bool) (text : List ℕ) (c : Contents) (w : Walk) → (took (Copy text) (tells c (if a && b then Some reply.Done else None)) c w).ok ≡ (a && b)
took_copy true true text c w = refl
took_copy true false text c w = refl
took_copy false b text c w = refl

copy_ok : (replica : Bool) (text : List ℕ) (c : Contents) (w : Walk) → (apply replica (Copy text) c w).ok ≡ (is_label text && is_stored (kind_of c))
unfolding apply
copy_ok true text c w = took_copy (is_label text) (is_stored (kind_of c)) text c w
copy_ok false text c w = took_copy (is_label text) (is_stored (kind_of c)) text c w

kept_label : (a b : Bool) (text : List ℕ) (label kept : Option (List ℕ)) (ok : Bool) → label ≡ (if a then Some text else None) → ok ≡ (a && b) → kept ≡ (if ok then label else None) → entries kept ≡ only ok text
kept_label a b text label kept true asks is keeps = ap entries keeps ∙ (ap entries asks ∙ ap (λ (x : Bool). entries (if x then Some text else None)) (and_parts a b (sym is)).0)
kept_label a b text label kept false asks is keeps = ap entries keeps

none_kept : (label kept : Option (List ℕ)) (ok : Bool) → label ≡ None → kept ≡ (if ok then label else None) → entries kept ≡ []
none_kept label kept true asks keeps = ap entries (keeps ∙ asks)
none_kept label kept false asks keeps = ap entries keeps

-- a label that is asked for, where the request succeeded: only a copy under a label does
copied_label : (replica : Bool) (r : Request) (c : Contents) (w : Walk) (label kept : Option (List ℕ)) (ok : Bool) → label ≡ label_in r → ok ≡ (apply replica r c w).ok → kept ≡ (if ok then label else None) → entries kept ≡ labels_of r (apply replica r c w)
copied_label replica (Copy text) c w label kept ok asks is keeps = kept_label (is_label text) (is_stored (kind_of c)) text label kept ok asks (is ∙ copy_ok replica text c w) keeps ∙ ap (λ (b : Bool). only b text) is
copied_label replica r c w label kept ok asks is keeps = none_kept label kept ok asks keeps

pub serves : (replica logs : Bool) (r : Request) (a : Applied) (d : Served) (label : Option (List ℕ)) (packs : Bool) (c c' : Contents) (w w' : Walk) (waiting waiting' : List ℕ) → d.commits ≡ (a.updated || packs) → packs ≡ is_optimize r
    → d.update ≡ kept_bytes a.updated logs r → label ≡ label_in r → d.copy ≡ (if a.ok then label else None) → Applies (apply replica r c w) r a c' w' waiting waiting' → Serves logs (done replica (piece.Request r) c w) d c' w' waiting waiting'
serves replica logs r a d label packs c c' w w' waiting waiting' is p u asks copy applied = record {
  contents = applied.contents;
  walk = applied.walk;
  waiting_is = applied.bytes;
  commits = is ∙ (ap (λ (b : Bool). b || packs) applied.updated ∙ ap (λ (b : Bool). is_updated r (apply replica r c w) || b) p);
  update = λ asked. ap entries u ∙ copied_update logs r (apply replica r c w) a.updated applied.updated asked;
  copy = copied_label replica r c w label d.copy a.ok asks applied.ok copy;
}

pub for_none : {A : Type 0} (P : A → Type 0) → ForSome None P
for_none P x is = absurd cc

for_some : {A : Type 0} (P : A → Type 0) (a : A) → P a → ForSome (Some a) P
for_some P a p x is = let s : a ≡ x = cc in subst P s p

-- a label that is given back is one
pub kept_one : (r : Request) (label kept : Option (List ℕ)) (ok : Bool) → label ≡ label_in r → kept ≡ (if ok then label else None) → ForSome kept (λ l. is_label l ≡ true)
kept_one r label kept false asks keeps = subst (λ (o : Option (List ℕ)). ForSome o (λ l. is_label l ≡ true)) (sym keeps) (for_none (λ l. is_label l ≡ true))
kept_one r label kept true asks keeps = subst (λ (o : Option (List ℕ)). ForSome o (λ l. is_label l ≡ true)) (sym (keeps ∙ asks)) (one r)
  where
    by : (text : List ℕ) (b : Bool) → is_label text ≡ b → ForSome (if b then Some text else None) (λ l. is_label l ≡ true)
    by text true e = for_some (λ l. is_label l ≡ true) text e
    by text false e = for_none (λ l. is_label l ≡ true)

    one : (r : Request) → ForSome (label_in r) (λ l. is_label l ≡ true)
    one (Copy text) = by text (is_label text) refl
    one r = for_none (λ l. is_label l ≡ true)

-- whatever is told: a copy is kept only where it was made, of a request that may update
pub notes_of : (replica logs : Bool) (r : Request) (d : Served) (updated packs : Bool) → Fits r → ((replica && updates r) ≡ true → updated ≡ false) → d.commits ≡ (updated || packs) → d.update ≡ kept_bytes updated logs r → ForSome d.copy (λ l. is_label l ≡ true) → Notes replica logs d
notes_of replica logs r d updated packs fits blocks commits update labelled = record {
  asked = λ none. update ∙ unasked logs updated (updates r) none;
  blocked = λ on. update ∙ stopped updated logs (updates r) on blocks;
  idle = λ none. update ∙ unchanged updated packs (if logs && updates r then Some (spelling r) else None) (sym commits ∙ none);
  noted = subst (λ (o : Option (List ℕ)). ForSome o IsUpdating) (sym update) (kept updated logs (updates r) refl);
  labelled = labelled;
}
  where
    unasked : (l o u : Bool) → l ≡ false → (if o then (if l && u then Some (spelling r) else None) else None) ≡ None
    unasked false true u e = refl
    unasked false false u e = refl
    unasked true o u e = absurd cc

    stopped : (o l u : Bool) → replica ≡ true → ((replica && u) ≡ true → o ≡ false) → (if o then (if l && u then Some (spelling r) else None) else None) ≡ None
    stopped false l u on h = refl
    stopped true true true on h = absurd (let e = h (ap (λ (b : Bool). b && true) on) in cc)
    stopped true false true on h = refl
    stopped true true false on h = refl
    stopped true false false on h = refl

    unchanged : (o p : Bool) (x : Option (List ℕ)) → (o || p) ≡ false → (if o then x else None) ≡ None
    unchanged false p x e = refl
    unchanged true p x e = absurd cc

    kept : (o l u : Bool) → updates r ≡ u → ForSome (if o then (if l && u then Some (spelling r) else None) else None) IsUpdating
    kept true true true e = for_some IsUpdating (spelling r) (record { request = r; fits = fits; spells = refl; changes = updates_only r e })
    kept true true false e = for_none IsUpdating
    kept true false u e = for_none IsUpdating
    kept false l u e = for_none IsUpdating

-- ---- a session's fields

pub still_inside : (old new : List ℕ) (taken : ℕ) → IsPrefix old new → taken ≤ length old → taken ≤ length new
still_inside old new taken more le = omega (arith, le, ap length more.1, length-append old more.0)

-- what came behind the bytes that wait waits
serves_behind : (logs : Bool) (e : Done) (d : Served) (c : Contents) (w : Walk) (waiting old new : List ℕ) (taken : ℕ) → drop taken old ≡ waiting → taken ≤ length old → Serves logs e d c w old new → Serves logs e d c w waiting (drop taken new)
serves_behind logs e d c w waiting old new taken is le s = record {
  contents = s.contents;
  walk = s.walk;
  waiting_is = ap (drop taken) s.waiting_is ∙ (drop-append-le taken old e.reply le ∙ ap (λ (l : List ℕ). l ++ e.reply) is);
  commits = s.commits;
  update = s.update;
  copy = s.copy;
}

pub front_behind : {S B : Type 0} (s : Ghosts S) (holds : B → Files → Contents → Type 0) (replica logs : Bool) (t : Taken) (d : Served) (b b' : B) (a a' : S) (w w' : Walk) (u v u' v' waiting old new : List ℕ) (taken : ℕ)
    → v ≡ u → v' ≡ u' → drop taken old ≡ waiting → taken ≤ length old → IsTaken t logs v v' → ServesPiece s holds replica logs t.piece d b b' a a' w w' old new
    → ServesFront s holds replica logs d b b' a a' w w' u u' waiting (drop taken new)
front_behind s holds replica logs t d b b' a a' w w' u v u' v' waiting old new taken same left is le k p = record {
  piece = t.piece;
  takes = subst (λ (l : List ℕ). TakesOff t.piece d l u') same (subst (λ (l : List ℕ). TakesOff t.piece d v l) left (taken_off t logs v v' d k p.feeds));
  served = record {
    feeds = p.feeds;
    notes = p.notes;
    few = let more = p.few in omega (arith, more, le, length-drop taken new, length-drop taken old, ap length is);
    serves = λ c h. let x = p.serves c h in (x.0, x.1, serves_behind logs (done replica t.piece c w) d x.0 w' waiting old new taken is le x.2);
  };
}

-- a packing updates nothing
pub packing_idle : (r : Request) → is_optimize r ≡ true → updates r ≡ false
packing_idle (Optimize text) packs = refl
packing_idle (Put key value) packs = absurd cc
packing_idle (PutKeep key value) packs = absurd cc
packing_idle (PutCat key value) packs = absurd cc
packing_idle (PutShl key value width) packs = absurd cc
packing_idle (PutNr key value) packs = absurd cc
packing_idle (Out key) packs = absurd cc
packing_idle (Get key) packs = absurd cc
packing_idle (MGet keys) packs = absurd cc
packing_idle (Vsiz key) packs = absurd cc
packing_idle IterInit packs = absurd cc
packing_idle IterNext packs = absurd cc
packing_idle (FwmKeys prefix maximum) packs = absurd cc
packing_idle (AddInt key number) packs = absurd cc
packing_idle (AddDouble key integer fraction) packs = absurd cc
packing_idle (Ext name options key value) packs = absurd cc
packing_idle Sync packs = absurd cc
packing_idle Vanish packs = absurd cc
packing_idle (Copy path) packs = absurd cc
packing_idle (Restore path timestamp options) packs = absurd cc
packing_idle (SetMst host port timestamp options) packs = absurd cc
packing_idle Rnum packs = absurd cc
packing_idle Size packs = absurd cc
packing_idle Stat packs = absurd cc
packing_idle (Misc name options args) packs = absurd cc
packing_idle (Repl timestamp server) packs = absurd cc

pub never_packs : {P : Type 0} (replica : Bool) (r : Request) → (replica && updates r) ≡ true → is_optimize r ≡ true → P
never_packs false r fails packs = absurd cc
never_packs true r fails packs = let idle = packing_idle r packs in absurd cc

-- where the piece that was taken off packed files
pub front_tight : {S B : Type 0} (s : Ghosts S) (holds : B → Files → Contents → Type 0) (tight : B → Files → Form → Files → Type 0) (logs : Bool) (t : Taken) (base base' : B) (old new : S) (u v v' : List ℕ) → v ≡ u → IsTaken t logs v v' → TightPiece s holds tight t.piece base base' old new
    → TightFront s holds tight base base' old new u
front_tight s holds tight logs t base base' old new u v v' same k packs = record { piece = t.piece; begins = record { rest = v'; front = ap piece_at (sym same) ∙ k.front }; packs = packs }

pub front_full : {S B : Type 0} (s : Ghosts S) (holds : B → Files → Contents → Type 0) (fills : Contents → Contents → Type 0) (replica logs : Bool) (t : Taken) (b : B) (a : S) (w : Walk) (u v v' : List ℕ) → v ≡ u → IsTaken t logs v v' → FillsPiece s holds fills replica t.piece b a w → FillsFront s holds fills replica b a w u
front_full s holds fills replica logs t b a w u v v' same k f = record { piece = t.piece; begins = record { rest = v'; front = ap piece_at (sym same) ∙ k.front }; full = f }

-- ---- a piece of one kind

-- a text command packs nothing
pub text_idle : {P : Type 0} (x : Piece) (t : Text) → x ≡ piece.Text t → piece_packs x ≡ true → P
text_idle x t is packs = absurd (let f : false ≡ true = sym (ap piece_packs is) ∙ packs in cc)

pub fills_wider : {S B : Type 0} (s : Ghosts S) (holds : B → Files → Contents → Type 0) (fills since : Contents → Contents → Type 0) (replica : Bool) (x : Piece) (b : B) (a : S) (w : Walk) → ((c d : Contents) → fills c d → since c d) → FillsPiece s holds fills replica x b a w → FillsPiece s holds since replica x b a w
fills_wider s holds fills since replica x b a w wider f = record { writes = f.writes; packs = λ packs t c d. wider c d (f.packs packs t c d); by = λ c h. wider c (done replica x c w).made.contents (f.by c h) }

pub served_request : {S B : Type 0} (s : Ghosts S) (holds : B → Files → Contents → Type 0) (replica logs : Bool) (x : Piece) (r : Request) (copied : Option (List ℕ)) (d : Served) (b b' : B) (a a' : S) (w w' : Walk) (old new : List ℕ) → x ≡ piece.Request r → copied ≡ copy_of logs x
    → ((l : Bool) → copied ≡ copy_of l (piece.Request r) → ServesPiece s holds replica l (piece.Request r) d b b' a a' w w' old new) → ServesPiece s holds replica logs x d b b' a a' w w' old new
served_request s holds replica logs x r copied d b b' a a' w w' old new is kept f = subst (λ (y : Piece). ServesPiece s holds replica logs y d b b' a a' w w' old new) (sym is) (f logs (kept ∙ ap (copy_of logs) is))
