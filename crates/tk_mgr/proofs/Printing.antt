-- Texts that are printed whole, and lists that are printed a line at a time.
use Rattle.std.proofs.Common.{◌≡◌, ◌≢◌, ◌<◌, ◌^◌, inl, inr, ⊎_elim, ℕ, Bool, true, false, List, [], ◌∷◌, ◌++◌, length, refl, sym, ap, subst, ◌∙◌, append_assoc, arith, length-append, Ok, Err}
use Rattle.std.specs.Prelude.{◌==◌, Option, Result}
use Rattle.std.proofs.lemmas.Bool.Decides.{nat_tests}
use Rattle.std.specs.Int.{w32, to_be_bytes}
use Rattle.std.proofs.lemmas.List.{append-nil}
use Rattle.tc_base.specs.Files.{Files}
use Rattle.tc_base.specs.Reading.{size_at, bytes_at}
use Rattle.tc_base.proofs.Exact.{same_whole}
use Rattle.tc_base.proofs.ExactFields.{exact_size, exact_bytes}
use Rattle.tc_io.specs.Told.{Adds, AddsFront}
use Rattle.tc_space.specs.declared.space.Space as space
use Rattle.tc_model.specs.Contents.{Contents}
use Rattle.tc_model.specs.Stores.{value_of}
use Rattle.ty_wire.specs.Form.{items_bytes}
use Rattle.ty_wire.specs.Items.{item_at}
use Rattle.ty_base.specs.Holding.{Held}
use Rattle.ty_rounds.proofs.Telling.{Adds-none, Adds-then}
use Rattle.tk_mgr.specs.declared.errors.MgrErr.{MgrErr}
use Rattle.tk_mgr.specs.declared.task.Task.{Task}
use Rattle.tk_mgr.specs.Tasks.{Prints, ok_of, pair_line, shown}
use Rattle.tk_mgr.specs.Asking.{Looks, looks_refl, looks_then}
use Rattle.tk_mgr.specs.Showing.{HasKeys, IsShown, IsValue, Listed, PrintsLine, Shows, StopsLine, line_of, lines_of}

-- ---- nothing, or a text whole

pub shows_nothing : {S B : Type 0} (s : space.Ghosts S) (holds : B → Files → Contents → Type 0) (lines : Files → List ℕ → Type 0) (task : Task) (e : MgrErr) (base : B) (a : S) (p : Option (List ℕ)) → Shows s holds lines task (Err e) base a p p
shows_nothing s holds lines task e base a p = record { taken = []; told = Adds-none p; none = λ is. refl; by = λ c h. record { ok = λ b is. absurd cc; printed = inl refl; whole = λ is. absurd cc } }

pub shows_refused : {S B : Type 0} (s : space.Ghosts S) (holds : B → Files → Contents → Type 0) (lines : Files → List ℕ → Type 0) (task : Task) (base : B) (a : S) (p : Option (List ℕ)) → ((c : Contents) → Held s holds base a c → false ≡ ok_of task c) → Shows s holds lines task (Ok false) base a p p
shows_refused s holds lines task base a p failed = record {
  taken = [];
  told = Adds-none p;
  none = λ is. refl;
  by = λ c h. record { ok = λ b is. let same : false ≡ b = cc in sym same ∙ failed c h; printed = inl refl; whole = λ is. absurd cc };
}

pub shows_text : {S B : Type 0} (s : space.Ghosts S) (holds : B → Files → Contents → Type 0) (lines : Files → List ℕ → Type 0) (task : Task) (ok : Bool) (text : List ℕ) (result : Result Bool MgrErr) (base : B) (a : S) (p q : Option (List ℕ))
    → ((c : Contents) → Held s holds base a c → (ok ≡ ok_of task c) × (ok ≡ true → Prints lines task (s.now a) c text)) → IsShown ok text result p q → Shows s holds lines task result base a p q
shows_text s holds lines task ok text result base a p q by x = record {
  taken = x.taken;
  told = x.told;
  none = x.none;
  by = λ c h.
      let y = by c h in
      record {
        ok = λ b is. x.ok b is ∙ y.0;
        printed = ⊎_elim (λ none. inl none) (λ some. inr (record { ok = sym y.0 ∙ some.0; text = text; prints = y.1 some.0; front = some.1 })) x.printed;
        whole = λ is. subst (λ (l : List ℕ). Prints lines task (s.now a) c l) (sym (x.whole is)) (y.1 (sym (x.ok true is)));
      };
}

pub shown_none : (text : List ℕ) (p : Option (List ℕ)) → IsShown false text (Ok false) p p
shown_none text p = record { taken = []; told = Adds-none p; ok = λ b is. cc; printed = inl refl; whole = λ is. absurd cc; none = λ is. refl }

pub shown_all : (text : List ℕ) (p q : Option (List ℕ)) → Adds p q text → IsShown true text (Ok true) p q
shown_all text p q told = record { taken = text; told = told; ok = λ b is. cc; printed = inr (refl, ([], sym (append-nil text))); whole = λ is. refl; none = λ is. absurd cc }

pub shown_part : (text : List ℕ) (e : MgrErr) (p q : Option (List ℕ)) → AddsFront p q text → IsShown true text (Err e) p q
shown_part text e p q x = record { taken = x.front; told = x.told; ok = λ b is. absurd cc; printed = inr (refl, (x.back, x.parts)); whole = λ is. absurd cc; none = λ is. absurd cc }

-- ---- texts with their sizes

-- a text with its size in front, then more
abbrev item_then : List ℕ → List ℕ → List ℕ
item_then x more = to_be_bytes w32 (length x) ++ (x ++ more)

pub item_read : (x more : List ℕ) → length x < 2 ^ 32 → item_at 4294967295 (item_then x more) ≡ Ok (x, more)
item_read x more short =
    let size : size_at 4294967295 (item_then x more) ≡ Ok (length x, x ++ more) = (exact_size 4294967295 (omega arith)).again (length x) _ (x ++ more) (omega arith, refl) in
    let text : bytes_at (length x) (x ++ more) ≡ Ok (x, more) = (exact_bytes (length x)).again x x more (refl, refl) in
    rw size text

first_short : (x : List ℕ) (more : List (List ℕ)) (rest : List ℕ) → HasKeys rest (x ∷ more) → length x < 2 ^ 32
first_short x more rest h = omega (arith, h.short, ap length h.bytes, length-append x (items_bytes more))

no_keys : (keys : List (List ℕ)) → HasKeys [] keys → keys ≡ []
no_keys [] h = refl
no_keys (x ∷ more) h = absurd (let e = h.bytes in cc)

-- what was read is the first key
pub first_read : (rest key behind : List ℕ) (keys : List (List ℕ)) → rest ≢ [] → item_at 4294967295 rest ≡ Ok (key, behind) → HasKeys rest keys → (more : List (List ℕ)) × (keys ≡ key ∷ more) × HasKeys behind more
first_read rest key behind [] some read h = absurd (some h.bytes)
first_read rest key behind (x ∷ more) some read h =
    let again : item_at 4294967295 rest ≡ Ok (x, items_bytes more) = ap (item_at 4294967295) h.bytes ∙ item_read x (items_bytes more) (first_short x more rest h) in
    let pair : (key ≡ x) × (behind ≡ items_bytes more) = same_whole key x behind (items_bytes more) (sym read ∙ again) in
    (more, ap (λ (y : List ℕ). y ∷ more) (sym pair.0), record { bytes = pair.1; short = omega (arith, h.short, ap length h.bytes, ap length pair.1, length-append x (items_bytes more)) })

-- ---- one line

pair_grouped : (old key v : List ℕ) → (((old ++ key) ++ 9 ∷ []) ++ v) ++ 10 ∷ [] ≡ old ++ (key ++ (9 ∷ (v ++ 10 ∷ [])))
pair_grouped old key v = simp append_assoc

pub pair_added : (c : Contents) (key wanted old a b d new : List ℕ) (done : Bool) → wanted ≡ key → a ≡ old ++ key → b ≡ a ++ 9 ∷ [] → done ≡ true → IsValue wanted done c b d → new ≡ d ++ 10 ∷ [] → new ≡ old ++ pair_line c key
pair_added c key wanted old a b d new done same first tab is value last =
    let v : List ℕ = shown c (value_of c key) in
    last
    ∙ ap (λ (l : List ℕ). l ++ 10 ∷ []) (value.added is ∙ ap (λ (k : List ℕ). b ++ shown c (value_of c k)) same ∙ ap (λ (l : List ℕ). l ++ v) (tab ∙ ap (λ (l : List ℕ). l ++ 9 ∷ []) first))
    ∙ pair_grouped old key v

-- whether any are left
pub some_rest : (rest : List ℕ) (b : Bool) → b ≡ (length rest == 0) → b ≡ false → rest ≢ []
some_rest [] b e f = absurd cc
some_rest (x ∷ xs) b e f = λ is. cc

pub none_rest : (rest : List ℕ) (b : Bool) → b ≡ (length rest == 0) → b ≡ true → rest ≡ []
none_rest [] b e f = refl
none_rest (x ∷ xs) b e f = absurd (grind (arith, nat_tests))

-- ---- lines of a list, from keys on, up to those that are left

pub record Lists {S B : Type 0} (s : space.Ghosts S) (holds : B → Files → Contents → Type 0) (values : Bool) (base base' : B) (old new : S) (items rest : List ℕ) (p q : Option (List ℕ)) (waits : List ℕ) : Type 0 where
  pub looks : Looks s holds base base' old new
  pub taken : List ℕ
  pub told : Adds p q taken
  pub by : (c : Contents) (keys : List (List ℕ)) → Held s holds base old c → HasKeys items keys → (left : List (List ℕ)) × HasKeys rest left × (lines_of values c keys ≡ (taken ++ waits) ++ lines_of values c left)

regrouped : (a b line c d more : List ℕ) → b ++ line ≡ c ++ d → (a ++ b) ++ (line ++ more) ≡ ((a ++ c) ++ d) ++ more
regrouped a b line c d more e =
    append_assoc a b (line ++ more)
    ∙ ap (λ (l : List ℕ). a ++ l) (sym (append_assoc b line more) ∙ ap (λ (l : List ℕ). l ++ more) e ∙ append_assoc c d more)
    ∙ sym (append_assoc a c (d ++ more)) ∙ sym (append_assoc (a ++ c) d more)

module _ {S B : Type 0} (s : space.Ghosts S) (holds : B → Files → Contents → Type 0) (values : Bool) where
  pub lists_none : (base : B) (a : S) (items : List ℕ) (p : Option (List ℕ)) → s.sound a → Lists s holds values base base a a items items p p []
  lists_none base a items p is = record { looks = looks_refl s holds base a is; taken = []; told = Adds-none p; by = λ c keys h k. (keys, k, refl) }

  pub lists_more : (base b1 b2 : B) (a a1 a2 : S) (items rest key behind : List ℕ) (p q r : Option (List ℕ)) (waiting waits : List ℕ) → rest ≢ [] → item_at 4294967295 rest ≡ Ok (key, behind)
      → Lists s holds values base b1 a a1 items rest p q waiting → PrintsLine s holds values key b1 b2 a1 a2 q r waiting waits → Lists s holds values base b2 a a2 items behind p r waits
  lists_more base b1 b2 a a1 a2 items rest key behind p q r waiting waits some read x y = record {
    looks = looks_then s holds base b1 b2 a a1 a2 x.looks y.looks;
    taken = x.taken ++ y.taken;
    told = Adds-then p q r x.taken y.taken x.told y.told;
    by = λ c keys h k.
        let u = x.by c keys h k in
        let f = first_read rest key behind u.0 some read u.1 in (
          f.0,
          f.2,
          u.2 ∙ ap (λ (ks : List (List ℕ)). (x.taken ++ waiting) ++ lines_of values c ks) f.1 ∙ regrouped x.taken waiting (line_of values c key) y.taken waits (lines_of values c f.0) (y.by c (x.looks.held c h)),
        );
  }

  -- it stopped
  pub lists_cut : (base b1 : B) (a a1 : S) (items rest : List ℕ) (p q : Option (List ℕ)) (waiting : List ℕ) (e : MgrErr) → Lists s holds values base b1 a a1 items rest p q waiting → Listed s holds values (Err e) items base a p q
  lists_cut base b1 a a1 items rest p q waiting e x = record {
    taken = x.taken;
    told = x.told;
    front = λ c keys h k. let u = x.by c keys h k in (waiting ++ lines_of values c u.0, u.2 ∙ append_assoc x.taken waiting (lines_of values c u.0));
    whole = tt;
  }

  pub lists_stop : (base b1 : B) (a a1 : S) (items rest key behind : List ℕ) (p q r : Option (List ℕ)) (waiting : List ℕ) (e : MgrErr) → rest ≢ [] → item_at 4294967295 rest ≡ Ok (key, behind)
      → Lists s holds values base b1 a a1 items rest p q waiting → StopsLine s holds values key b1 a1 q r waiting → Listed s holds values (Err e) items base a p r
  lists_stop base b1 a a1 items rest key behind p q r waiting e some read x y = record {
    taken = x.taken ++ y.taken;
    told = Adds-then p q r x.taken y.taken x.told y.told;
    front = λ c keys h k.
        let u = x.by c keys h k in
        let f = first_read rest key behind u.0 some read u.1 in
        let z = y.by c (x.looks.held c h) in (
          z.0 ++ lines_of values c f.0,
          u.2 ∙ ap (λ (ks : List (List ℕ)). (x.taken ++ waiting) ++ lines_of values c ks) f.1 ∙ regrouped x.taken waiting (line_of values c key) y.taken z.0 (lines_of values c f.0) z.1 ∙ append_assoc (x.taken ++ y.taken) z.0 (lines_of values c f.0),
        );
    whole = tt;
  }

  all_lines : (c : Contents) (keys left : List (List ℕ)) (taken waiting : List ℕ) → left ≡ [] → lines_of values c keys ≡ (taken ++ waiting) ++ lines_of values c left → lines_of values c keys ≡ taken ++ waiting
  all_lines c keys left taken waiting none e = e ∙ ap (λ (ks : List (List ℕ)). (taken ++ waiting) ++ lines_of values c ks) none ∙ append-nil (taken ++ waiting)

  -- the end
  pub lists_end : (base b1 : B) (a a1 : S) (items rest : List ℕ) (p q r : Option (List ℕ)) (waiting : List ℕ) → rest ≡ [] → Lists s holds values base b1 a a1 items rest p q waiting → Adds q r waiting → Listed s holds values (Ok tt) items base a p r
  lists_end base b1 a a1 items rest p q r waiting none x flushed =
      let all = λ (c : Contents) (keys : List (List ℕ)) (h : Held s holds base a c) (k : HasKeys items keys).
      let u = x.by c keys h k in all_lines c keys u.0 x.taken waiting (no_keys u.0 (subst (λ (l : List ℕ). HasKeys l u.0) none u.1)) u.2 in
      record {
        taken = x.taken ++ waiting;
        told = Adds-then p q r x.taken waiting x.told flushed;
        front = λ c keys h k. ([], all c keys h k ∙ sym (append-nil (x.taken ++ waiting)));
        whole = λ c keys h k. sym (all c keys h k);
      }

  pub lists_lost : (base b1 : B) (a a1 : S) (items rest : List ℕ) (p q r : Option (List ℕ)) (waiting : List ℕ) (e : MgrErr) → Lists s holds values base b1 a a1 items rest p q waiting → AddsFront q r waiting → Listed s holds values (Err e) items base a p r
  lists_lost base b1 a a1 items rest p q r waiting e x lost = record {
    taken = x.taken ++ lost.front;
    told = Adds-then p q r x.taken lost.front x.told lost.told;
    front = λ c keys h k.
        let u = x.by c keys h k in (
          lost.back ++ lines_of values c u.0,
          u.2 ∙ ap (λ (l : List ℕ). (x.taken ++ l) ++ lines_of values c u.0) lost.parts ∙ ap (λ (l : List ℕ). l ++ lines_of values c u.0) (sym (append_assoc x.taken lost.front lost.back))
              ∙ append_assoc (x.taken ++ lost.front) lost.back (lines_of values c u.0),
        );
    whole = tt;
  }

-- ---- a line for each key is printed

module _ {S B : Type 0} (s : space.Ghosts S) (holds : B → Files → Contents → Type 0) (lines : Files → List ℕ → Type 0) (task : Task) (values : Bool) (keys : Contents → List (List ℕ)) where
  -- the task prints a line for each of these keys
  abbrev pub PrintsKeys : Type 0
  PrintsKeys = (files : Files) (c : Contents) → Prints lines task files c (lines_of values c (keys c))

  abbrev pub IsReply : B → S → B → S → List ℕ → Type 0
  IsReply base a base' a' items = (c : Contents) → Held s holds base a c → Held s holds base' a' c × HasKeys items (keys c) × (true ≡ ok_of task c)

  pub shows_lines : (base b1 : B) (a a1 : S) (items : List ℕ) (p q : Option (List ℕ)) → PrintsKeys → IsReply base a b1 a1 items → Listed s holds values (Ok tt) items b1 a1 p q → Shows s holds lines task (Ok true) base a p q
  shows_lines base b1 a a1 items p q prints reply x = record {
    taken = x.taken;
    told = x.told;
    none = λ is. absurd cc;
    by = λ c h.
        let r = reply c h in
        let text : x.taken ≡ lines_of values c (keys c) = x.whole c (keys c) r.0 r.1 in
        record {
          ok = λ b is. let same : true ≡ b = cc in sym same ∙ r.2;
          printed = inr (record { ok = sym r.2; text = lines_of values c (keys c); prints = prints (s.now a) c; front = ([], sym text ∙ sym (append-nil x.taken)) });
          whole = λ is. subst (λ (l : List ℕ). Prints lines task (s.now a) c l) (sym text) (prints (s.now a) c);
        };
  }

  pub shows_front : (e : MgrErr) (base b1 : B) (a a1 : S) (items : List ℕ) (p q : Option (List ℕ)) → PrintsKeys → IsReply base a b1 a1 items → Listed s holds values (Err e) items b1 a1 p q → Shows s holds lines task (Err e) base a p q
  shows_front e base b1 a a1 items p q prints reply x = record {
    taken = x.taken;
    told = x.told;
    none = λ is. absurd cc;
    by = λ c h.
        let r = reply c h in
        record {
          ok = λ b is. absurd cc;
          printed = inr (record { ok = sym r.2; text = lines_of values c (keys c); prints = prints (s.now a) c; front = x.front c (keys c) r.0 r.1 });
          whole = λ is. absurd cc;
        };
  }
