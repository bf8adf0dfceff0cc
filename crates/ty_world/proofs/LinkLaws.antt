-- What the link's part of a round does.
use Rattle.std.proofs.Common.{◌≡◌, ◌⊎◌, inl, inr, ℕ, ◌<◌, ◌≤◌, Bool, true, false, cond, List, [], ◌∷◌, ◌++◌, length, take, drop, refl, sym, ap, subst, ◌∙◌, arith, ⊎_elim}
use Rattle.std.specs.Prelude.{◌&&◌, Option, Some, None, Ok, Err, nat_eq, nat_lt, nat_le, is_some}
use Rattle.std.specs.Int.{w32, from_be_bytes}
use Rattle.std.proofs.lemmas.List.{append_assoc, take-append-drop, length-take}
use Rattle.std.proofs.lemmas.Bool.{and_parts, eqb-true, ltb-true, ltb-false}
use Rattle.tc_base.specs.declared.request.Request.{Request}
use Rattle.tc_base.specs.declared.fields.NotWhole.TheVariants as not_whole
use Rattle.tc_base.specs.Reading.{Front}
use Rattle.tc_base.proofs.Exact.{IsBytes, IsBytes-rest}
use Rattle.tc_model.specs.Apply.{apply, updates}
use Rattle.ty_wire.specs.Reading.{request_at}
use Rattle.ty_ulog.specs.declared.record.Record.{Record}
use Rattle.ty_ulog.specs.Records.{record_at, record_bytes, Fits}
use Rattle.ty_ulog.specs.Updates.{update_in, sole_update, alone}
use Rattle.ty_ulog.specs.Log.{log_bytes}
use Rattle.ty_ulog.proofs.Taken.{taken}
use Rattle.ty_ulog.proofs.Rows.{log_more}
use Rattle.ty_slave.specs.declared.link.Step.{Step as Look}
use Rattle.ty_slave.specs.declared.link.Step.TheVariants.{Part, Master, Take, Old, Gap, Bad}
use Rattle.ty_slave.specs.Lines.{Line, judged, looked, introduced, is_refusal, stepped, past_id, looks}
use Rattle.tc_model.specs.Contents.{Contents, Walk}
use Rattle.ty_world.specs.Clients.{Client, to_master}
use Rattle.ty_world.specs.Links.{Dealt, Looked, unmoved, redone, dealt, line_of, with_line, look_at}
use Rattle.ty_world.specs.Fold.{EachFits, IsLine, LineRight, EachRight}

-- ---- the steps over what came

-- the last record looked at is the one to be taken
abbrev pub EndsWith : Look → List Record → Type 0
EndsWith (Take r) rs = (older : List Record) × (rs ≡ older ++ r ∷ [])
EndsWith _ rs = Unit {0}

pub record After (input : List ℕ) (x : Look × Line) : Type 0 where
  pub line : IsLine input x.1.named x.1.unread
  pub are_bytes : IsBytes x.1.unread
  pub ends : EndsWith x.0 line.looked

fits_more : (rs : List Record) (r : Record) → EachFits rs → Fits r → EachFits (rs ++ r ∷ [])
fits_more [] r f g = (g, tt)
fits_more (q ∷ rs) r f g = (f.0, fits_more rs r f.1 g)

ends_judged : (h : ℕ) (r : Record) (older rs : List Record) → rs ≡ older ++ r ∷ [] → EndsWith (judged h r) rs
ends_judged h r older rs e = go (nat_eq r.before h && nat_lt h r.stamp && is_some (update_in r.request)) (nat_le r.stamp h) (nat_eq r.before h)
  where
    go : (a b c : Bool) → EndsWith (cond {A = Look} a (Take r) (cond b Old (cond c Bad (Gap h r.before)))) rs
    go true b c = (older, e)
    go false true c = tt
    go false false true = tt
    go false false false = tt

looked_line : (input : List ℕ) (q : Line) → q.named ≡ true → IsLine input q.named q.unread → IsBytes q.unread → After input (looked q (record_at q.unread))
looked_line input q named h bytes = go (record_at q.unread) refl
  where
    go : (f : Front Record) → record_at q.unread ≡ f → After input (looked q f)
    go (Ok x) e =
        let t = taken q.unread x.0 x.1 bytes e in
        let more : List Record = h.looked ++ x.0 ∷ [] in
        record {
          line = record {
            id = h.id;
            looked = more;
            parts = h.parts ∙ ap (λ (u : List ℕ). h.id ++ (log_bytes h.looked ++ u)) t.parts ∙ ap (λ (m : List ℕ). h.id ++ m) (sym (append_assoc (log_bytes h.looked) (record_bytes x.0) x.1) ∙ ap (λ (m : List ℕ). m ++ x.1) (sym (log_more h.looked x.0)));
            fit = fits_more h.looked x.0 h.fit t.fits;
            id_is = ⊎_elim (λ some. inl some) (λ none. absurd (let a = none.0 in cc)) h.id_is;
          };
          are_bytes = IsBytes-rest (record_bytes x.0) x.1 (subst IsBytes t.parts bytes);
          ends = ends_judged q.held x.0 h.looked more refl;
        }
    go (Err not_whole.Part) e = record { line = h; are_bytes = bytes; ends = tt }
    go (Err not_whole.Bad) e = record { line = h; are_bytes = bytes; ends = tt }

bytes_drop : (n : ℕ) (bytes : List ℕ) → IsBytes bytes → IsBytes (drop n bytes)
bytes_drop n bytes b = IsBytes-rest (take n bytes) (drop n bytes) (subst IsBytes (sym (take-append-drop n bytes)) b)

named_line : (input : List ℕ) (q : Line) → q.named ≡ false → 4 ≤ length q.unread → IsLine input q.named q.unread → IsLine input true (drop 4 q.unread)
named_line input q unnamed long h =
    let u = q.unread in
    let none : (h.id ≡ []) × (h.looked ≡ []) = ⊎_elim (λ some. absurd (let a = some.0 in cc)) (λ both. (both.1, both.2)) h.id_is in
    record {
      id = take 4 u;
      looked = [];
      parts = h.parts ∙ ap (λ (i : List ℕ). i ++ (log_bytes h.looked ++ u)) none.0 ∙ ap (λ (rs : List Record). log_bytes rs ++ u) none.1 ∙ sym (take-append-drop 4 u);
      fit = tt;
      id_is = inl (refl, omega (arith, length-take 4 u, long));
    }

introduced_line : (input : List ℕ) (q : Line) → q.named ≡ false → IsLine input q.named q.unread → IsBytes q.unread → After input (introduced q)
introduced_line input q unnamed h bytes = go (is_refusal q.unread) (nat_lt (length q.unread) 4) (nat_eq (from_be_bytes w32 q.unread) q.own) refl
  where
    go : (a b c : Bool) → nat_lt (length q.unread) 4 ≡ b → After input (cond {A = Look × Line} a (Bad, q) (cond b (Part, q) (cond c (Bad, q) (Master (from_be_bytes w32 q.unread), record q { named = true; unread = drop 4 q.unread }))))
    go true b c is = record { line = h; are_bytes = bytes; ends = tt }
    go false true c is = record { line = h; are_bytes = bytes; ends = tt }
    go false false true is = record { line = h; are_bytes = bytes; ends = tt }
    go false false false is = record { line = named_line input q unnamed (ltb-false _ _ is) h; are_bytes = bytes_drop 4 q.unread bytes; ends = tt }

stepped_line : (input : List ℕ) (q : Line) → IsLine input q.named q.unread → IsBytes q.unread → After input (stepped q)
unfolding stepped
stepped_line input q h bytes = go q.named refl
  where
    go : (b : Bool) → q.named ≡ b → After input (cond b (looked q (record_at q.unread)) (introduced q))
    go true is = looked_line input q is h bytes
    go false is = introduced_line input q is h bytes

pub looks_line : (input : List ℕ) (q : Line) → IsLine input q.named q.unread → IsBytes q.unread → After input (looks q)
looks_line input q h bytes = go (stepped q).0 (stepped q).1 (stepped_line input q h bytes)
  where
    go : (s : Look) (m : Line) → After input (s, m) → After input (past_id s (s, m))
    go Part m a = a
    go (Master id) m a = stepped_line input m a.line a.are_bytes
    go (Take r) m a = a
    go Old m a = a
    go (Gap g f) m a = a
    go Bad m a = a

-- ---- what is to be taken

-- one that follows on, is later, and holds one whole updating request
abbrev pub MayTake : ℕ → Look → Type 0
MayTake h (Take r) = (r.before ≡ h) × (h < r.stamp) × (is_some (update_in r.request) ≡ true)
MayTake h _ = Unit {0}

pub record Judged (h own : ℕ) (x : Look × Line) : Type 0 where
  pub may : MayTake h x.0
  pub still : x.1.held ≡ h
  pub same : x.1.own ≡ own

judged_may : (h : ℕ) (r : Record) → MayTake h (judged h r)
judged_may h r = go (nat_eq r.before h && nat_lt h r.stamp && is_some (update_in r.request)) (nat_le r.stamp h) (nat_eq r.before h) refl
  where
    go : (a b c : Bool) → (nat_eq r.before h && nat_lt h r.stamp && is_some (update_in r.request)) ≡ a → MayTake h (cond {A = Look} a (Take r) (cond b Old (cond c Bad (Gap h r.before))))
    go true b c e =
        let both = and_parts (nat_eq r.before h && nat_lt h r.stamp) (is_some (update_in r.request)) e in
        let two = and_parts (nat_eq r.before h) (nat_lt h r.stamp) both.0 in
        (eqb-true _ _ two.0, ltb-true _ _ two.1, both.1)
    go false true c e = tt
    go false false true e = tt
    go false false false e = tt

pub stepped_may : (q : Line) → Judged q.held q.own (stepped q)
unfolding stepped
stepped_may q = named q.named
  where
    front : (f : Front Record) → Judged q.held q.own (looked q f)
    front (Ok x) = record { may = judged_may q.held x.0; still = refl; same = refl }
    front (Err not_whole.Part) = record { may = tt; still = refl; same = refl }
    front (Err not_whole.Bad) = record { may = tt; still = refl; same = refl }

    id : (a b c : Bool) → Judged q.held q.own (cond {A = Look × Line} a (Bad, q) (cond b (Part, q) (cond c (Bad, q) (Master (from_be_bytes w32 q.unread), record q { named = true; unread = drop 4 q.unread }))))
    id true b c = record { may = tt; still = refl; same = refl }
    id false true c = record { may = tt; still = refl; same = refl }
    id false false true = record { may = tt; still = refl; same = refl }
    id false false false = record { may = tt; still = refl; same = refl }

    named : (b : Bool) → Judged q.held q.own (cond b (looked q (record_at q.unread)) (introduced q))
    named true = front (record_at q.unread)
    named false = id (is_refusal q.unread) (nat_lt (length q.unread) 4) (nat_eq (from_be_bytes w32 q.unread) q.own)

pub looks_may : (q : Line) → Judged q.held q.own (looks q)
looks_may q = go (stepped q).0 (stepped q).1 (stepped_may q)
  where
    go : (s : Look) (m : Line) → Judged q.held q.own (s, m) → Judged q.held q.own (past_id s (s, m))
    go Part m j = j
    go (Master id) m j = let k = stepped_may m in record { may = subst (λ (h : ℕ). MayTake h (stepped m).0) j.still k.may; still = k.still ∙ j.still; same = k.same ∙ j.same }
    go (Take r) m j = j
    go Old m j = j
    go (Gap a b) m j = j
    go Bad m j = j

-- ---- what is kept

pub update_is : (bytes : List ℕ) (q : Request) → update_in bytes ≡ Some q → updates q ≡ true
unfolding update_in
update_is bytes q e = go (request_at bytes) e
  where
    test : (p : Request) (b : Bool) → updates p ≡ b → cond b (Some p) None ≡ Some q → updates q ≡ true
    test p true is e = let same : p ≡ q = cc in ap updates (sym same) ∙ is
    test p false is e = absurd cc

    sole : (p : Request) (rest : List ℕ) → alone p rest ≡ Some q → updates q ≡ true
    sole p [] e = test p (updates p) refl e
    sole p (b ∷ rest) e = absurd cc

    go : (f : Front Request) → sole_update f ≡ Some q → updates q ≡ true
    go (Ok x) e = sole x.0 x.1 e
    go (Err d) e = absurd cc

-- a record was taken: the one that was to be
pub record Took (h : ℕ) (c : Contents) (w : Walk) (x : Look) (d : Dealt) : Type 0 where
  pub it : Record
  pub asks : Request
  pub before : it.before ≡ h
  pub later : h < it.stamp
  pub update : update_in it.request ≡ Some asks
  pub updating : updates asks ≡ true
  pub contents : d.contents ≡ (apply false asks c w).contents
  pub taken : d.taken ≡ it ∷ []
  pub is : x ≡ Take it

-- nothing came of it, or a record was taken
abbrev pub Comes : ℕ → Contents → Walk → Look → Dealt → Type 0
Comes h c w x d = ((d.taken ≡ []) × (d.contents ≡ c)) ⊎ Took h c w x d

redone_comes : (h : ℕ) (r : Record) (o : Option Request) (c : Contents) (w : Walk) → update_in r.request ≡ o → MayTake h (Take r) → Comes h c w (Take r) (redone r o c w)
redone_comes h r None c w u may = inl (refl, refl)
redone_comes h r (Some q) c w u may = go (apply false q c w).ok
  where
    go : (ok : Bool) → Comes h c w (Take r) (cond {A = Dealt} ok (record { contents = (apply false q c w).contents; walk = (apply false q c w).walk; taken = r ∷ []; gap = []; broken = false }) (unmoved c w true))
    go true = inr (record { it = r; asks = q; before = may.0; later = may.1; update = u; updating = update_is r.request q u; contents = refl; taken = refl; is = refl })
    go false = inl (refl, refl)

dealt_comes : (h : ℕ) (x : Look) (c : Contents) (w : Walk) → MayTake h x → Comes h c w x (dealt x c w)
dealt_comes h Part c w m = inl (refl, refl)
dealt_comes h (Master id) c w m = inl (refl, refl)
dealt_comes h (Take r) c w m = redone_comes h r (update_in r.request) c w refl m
dealt_comes h Old c w m = inl (refl, refl)
dealt_comes h (Gap a b) c w m = inl (refl, refl)
dealt_comes h Bad c w m = inl (refl, refl)

-- the link's part: what it looked at is its line, and what came of that
pub record Looks (h : ℕ) (c : Contents) (w : Walk) (k : Client) (l : Looked) : Type 0 where
  pub step : Look
  pub line : Line
  pub broken : Bool
  pub rest : List Client
  pub clients : l.clients ≡ with_line line broken k ∷ rest
  pub after : After k.input (step, line)
  pub what : Comes h c w step l.dealt_is

pub look_what : (own h : ℕ) (c : Contents) (w : Walk) (named broken : Bool) (k : Client) (ks : List Client) → LineRight (to_master named broken) k → Looks h c w k (look_at own h c w named broken k ks)
unfolding look_at
look_what own h c w named broken k ks right =
    let q = line_of own h named k in
    let x = looks q in
    record { step = x.0; line = x.1; broken = _; rest = ks; clients = refl; after = looks_line k.input q right.0 right.1; what = dealt_comes h x.0 c w (looks_may q).may }

pub look_right : (own h : ℕ) (c : Contents) (w : Walk) (named broken : Bool) (k : Client) (ks : List Client) → LineRight (to_master named broken) k → EachRight ks → EachRight (look_at own h c w named broken k ks).clients
unfolding look_at
look_right own h c w named broken k ks right rest = let a = looks_line k.input (line_of own h named k) right.0 right.1 in ((a.line, a.are_bytes), rest)
