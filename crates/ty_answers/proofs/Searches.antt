-- From what a search made of contents to what its request is answered.
use Rattle.std.proofs.Common.{◌≡◌, ◌∙◌, ℕ, Bool, true, false, cond, List, [], ◌∷◌, ◌++◌, length, Option, Some, None, option_map, option_and_then, unwrap_or, inr, refl, sym, ap, subst, arith}
use Rattle.std.specs.Prelude.{Result, Ok, Err, IfOk, OnErr, codes, filter_map, not, ◌&&◌, ◌||◌}
use Rattle.std.specs.List.{last_or, list_any}
use Rattle.std.specs.Cmp.Lexicographic.{same_text}
use Rattle.tc_base.specs.Files.{Files}
use Rattle.tc_base.specs.Texts.{is_text}
use Rattle.tc_base.specs.declared.kind.Kind.TheVariants as kind
use Rattle.tc_base.specs.declared.request.Request.TheVariants as request
use Rattle.tc_base.specs.declared.request.Reply.{Reply}
use Rattle.tc_base.specs.declared.request.Reply.TheVariants as reply
use Rattle.tc_space.specs.Frames.{Keeps, Reads, Refuses}
use Rattle.tc_space.specs.declared.errors.RecErr.{RecErr}
use Rattle.tc_space.specs.declared.space.Space.{Ghosts}
use Rattle.tc_model.specs.declared.misc.Misc.TheVariants as misc
use Rattle.tc_model.specs.declared.query.Deed.{Deed}
use Rattle.tc_model.specs.declared.query.Deed.TheVariants as deed
use Rattle.tc_model.specs.declared.query.Query.{Query}
use Rattle.tc_model.specs.Apply.{apply, called, fits, took}
use Rattle.tc_model.specs.Contents.{Contents, Indexes, Rows as TableRows, hash, tree, fixed, table}
use Rattle.tc_model.specs.Meaning.{Outcome, done_with, searched}
use Rattle.tc_model.specs.Misc.{misc_of}
use Rattle.tc_model.specs.Queries.{Term, as_condition, as_deed, as_limit, as_ordering, asks, condition, limit, made, ordering, query_of, term_of, terms}
use Rattle.tc_model.specs.Search.{Found, found}
use Rattle.tc_model.specs.Texts.{is_among, parts}
use Rattle.tc_model.proofs.Idle.{apply_idle}
use Rattle.tc_engine.specs.Changes.{found_by, search_of, takes_out}
use Rattle.tc_engine.specs.Effects.{IsFull, Makes}
use Rattle.tc_engine.specs.Rows.{AreItems, Extends, is_long}
use Rattle.tc_engine.specs.declared.rows.Rows.{Rows}
use Rattle.ty_base.specs.Holding.{Held, Layout}
use Rattle.ty_answers.specs.Answers.{Answered, Answers, IsFullBy, contents_of}
use Rattle.ty_answers.specs.Calls.{meant}
use Rattle.ty_answers.specs.Lists.{Gives, Opens, Undone, counted, no_rows, room}
use Rattle.ty_answers.specs.declared.voice.Voice.TheVariants.{Misc}
use Rattle.ty_answers.proofs.Calling.{called_is}
use Rattle.ty_answers.proofs.Dispatch.{took_contents}
use Rattle.ty_answers.proofs.Making.{only_reads}
use Rattle.ty_answers.proofs.RowReplies.{answered, list_told, texts_listed}
use Rattle.ty_answers.proofs.Telling.{read_answers}

-- ---- without `out` a search leaves the contents

quiet : (ok u : Bool) → u ≡ false → (ok && u) ≡ false
quiet true u e = e
quiet false u e = refl

search_none : (conditions : List (List ℕ)) (c : Contents) → ((q : Query) → searched c q ≡ None) → search_of conditions c ≡ None
search_none conditions c none = go (query_of conditions)
  where
    go : (o : Option Query) → option_and_then (searched c) o ≡ None
    go None = refl
    go (Some q) = none q

none_idle : (c : Contents) (o : Outcome) → o ≡ None → contents_of (option_map {U = Contents × Reply} (λ x. (x.0, reply.List x.1)) o) c ≡ c
none_idle c None is = refl
none_idle c (Some x) is = absurd cc

search_named : (conditions : List (List ℕ)) → misc_of (codes "search") conditions kind.Table ≡ Some (misc.Search conditions)
unfolding misc_of
search_named conditions = refl

-- as a request it is this call
pub search_idle : (conditions : List (List ℕ)) (c : Contents) → takes_out conditions ≡ false → contents_of (meant (misc.Search conditions) c) c ≡ c
unfolding apply
search_idle conditions (table rows indexes) plain =
    let c = table rows indexes in
    let r = request.Misc (codes "search") 0 conditions in
    ap (λ e. contents_of e c) (called_is (codes "search") 0 conditions (misc.Search conditions) c refl (search_named conditions) refl)
    ∙ (took_contents r (called (codes "search") 0 conditions c) c None
    ∙ apply_idle false r c None (quiet (took r (called (codes "search") 0 conditions c) c None).ok (takes_out conditions) plain))
search_idle conditions (hash memory m) plain = none_idle (hash memory m) (search_of conditions (hash memory m)) (search_none conditions (hash memory m) (λ q. refl))
search_idle conditions (tree memory decimal ps) plain = none_idle (tree memory decimal ps) (search_of conditions (tree memory decimal ps)) (search_none conditions (tree memory decimal ps) (λ q. refl))
search_idle conditions (fixed w most ids) plain = none_idle (fixed w most ids) (search_of conditions (fixed w most ids)) (search_none conditions (fixed w most ids) (λ q. refl))

-- ---- with `out` it says nothing

abbrev is_out : Deed → Bool
is_out deed.Out = true
is_out _ = false

-- what is read of the first argument and of the others
Read : Option Term → Option (List Term) → List Term → Type 0
Read o u ts = (t : Term) × (us : List Term) × (o ≡ Some t) × (u ≡ Some us) × (t ∷ us ≡ ts)

read_both : (o : Option Term) (u : Option (List Term)) (ts : List Term) → option_and_then (λ t. option_map (λ us. t ∷ us) u) o ≡ Some ts → Read o u ts
unfolding Read
read_both None u ts e = absurd cc
read_both (Some t) None ts e = absurd cc
read_both (Some t) (Some us) ts e = (t, us, refl, refl, cc)

out_read : (arg : List ℕ) (t : Term) → true ≡ is_text (codes "out") arg → term_of (parts arg) ≡ Some t → asks deed.Out ≡ t
out_read arg t is reads = let k : Some (asks deed.Out) ≡ Some t = ap (λ a. term_of (parts a)) (same_text (codes "out") arg is) ∙ reads in cc

abbrev has_out : List Term → Bool
has_out ts = list_any is_out (filter_map as_deed ts)

either_true : (b : Bool) → (b || true) ≡ true
either_true true = refl
either_true false = refl

more_out : (t : Term) (us : List Term) → has_out us ≡ true → has_out (t ∷ us) ≡ true
more_out (condition x) us h = h
more_out (ordering x) us h = h
more_out (limit x y) us h = h
more_out (asks d) us h = ap (λ b. is_out d || b) h ∙ either_true (is_out d)

outs : (args : List (List ℕ)) (ts : List Term) → terms args ≡ Some ts → is_among (codes "out") args ≡ true → has_out ts ≡ true
unfolding Read
outs [] ts e h = absurd cc
outs (arg ∷ args) ts e h =
    let r = read_both (term_of (parts arg)) (terms args) ts e in
    ap has_out (sym r.4) ∙ go (is_text (codes "out") arg) r.0 r.1 refl (λ is. out_read arg r.0 is r.2) (outs args r.1 r.3) h
  where
    go : (b : Bool) (t : Term) (us : List Term) → b ≡ is_text (codes "out") arg → (true ≡ is_text (codes "out") arg → asks deed.Out ≡ t) → (is_among (codes "out") args ≡ true → has_out us ≡ true) → (b || is_among (codes "out") args) ≡ true → has_out (t ∷ us) ≡ true
    go true t us is first rest h = subst (λ x. has_out (x ∷ us) ≡ true) (first is) refl
    go false t us is first rest h = more_out t us (rest h)

made_out : (ts : List Term) (ds : List Deed) (l : Option ℕ × ℕ) (q : Query) → made ts ds l ≡ Some q → list_any is_out ds ≡ true → is_out q.deed ≡ true
made_out ts [] l q e h = absurd cc
made_out ts (deed.Out ∷ []) l q e h = let same : record { conds = filter_map as_condition ts; sort = last_or None (filter_map as_ordering ts); maximum = l.0; skip = l.1; deed = deed.Out } ≡ q = cc in ap (λ (x : Query). is_out x.deed) (sym same)
made_out ts (deed.Keys ∷ []) l q e h = absurd cc
made_out ts (deed.Get ∷ []) l q e h = absurd cc
made_out ts (deed.Count ∷ []) l q e h = absurd cc
made_out ts (d ∷ f ∷ ds) l q e h = absurd cc

query_out : (conditions : List (List ℕ)) (q : Query) → query_of conditions ≡ Some q → takes_out conditions ≡ true → is_out q.deed ≡ true
unfolding query_of
query_out conditions q e h = go (terms conditions) (outs conditions) e
  where
    go : (o : Option (List Term)) → ((ts : List Term) → o ≡ Some ts → is_among (codes "out") conditions ≡ true → has_out ts ≡ true)
        → option_and_then (λ ts. made ts (filter_map as_deed ts) (unwrap_or (last_or None (filter_map as_limit ts)) (None, 0))) o ≡ Some q → is_out q.deed ≡ true
    go None outs e = absurd cc
    go (Some ts) outs e = made_out ts (filter_map as_deed ts) (unwrap_or (last_or None (filter_map as_limit ts)) (None, 0)) q e (outs ts refl h)

says_none : (d : Deed) (rows : TableRows) (indexes : Indexes) (fs : List Found) → is_out d ≡ true → (done_with d rows indexes fs).1 ≡ []
says_none deed.Out rows indexes fs e = refl
says_none deed.Keys rows indexes fs e = absurd cc
says_none deed.Get rows indexes fs e = absurd cc
says_none deed.Count rows indexes fs e = absurd cc

-- an outcome that says nothing, if there is one
abbrev IsQuiet : Outcome → Type 0
IsQuiet None = Unit {0}
IsQuiet (Some o) = o.1 ≡ []

searched_quiet : (c : Contents) (q : Query) → is_out q.deed ≡ true → IsQuiet (searched c q)
searched_quiet (table rows indexes) q e = says_none q.deed rows indexes (found q rows) e
searched_quiet (hash memory m) q e = tt
searched_quiet (tree memory decimal ps) q e = tt
searched_quiet (fixed w most ids) q e = tt

search_quiet : (conditions : List (List ℕ)) (c : Contents) → takes_out conditions ≡ true → IsQuiet (search_of conditions c)
search_quiet conditions c h = go (query_of conditions) (λ q is. query_out conditions q is h)
  where
    go : (o : Option Query) → ((q : Query) → o ≡ Some q → is_out q.deed ≡ true) → IsQuiet (option_and_then (searched c) o)
    go None d = tt
    go (Some q) d = searched_quiet c q (d q refl)

-- so what was to be left is what is left of the request
quiet_wanted : (c : Contents) (o : Outcome) → IsQuiet o → unwrap_or (option_map {U = Contents} (λ x. x.0) o) c ≡ contents_of (option_map {U = Contents × Reply} (λ x. (x.0, reply.List x.1)) o) c
quiet_wanted c None quiet = refl
quiet_wanted c (Some x) quiet = sym (ap (λ items. cond (fits (reply.List items)) x.0 c) quiet)

-- ---- what is told is what is meant, where the contents stay

abbrev pub Told : Outcome → Contents → Option (Contents × Reply)
Told o c = option_map (λ answer. (c, answer)) (option_map (λ items. reply.List items) (option_map {U = List (List ℕ)} (λ x. x.1) o))

abbrev pub Meant : Outcome → Option (Contents × Reply)
Meant o = option_map {U = Contents × Reply} (λ x. (x.0, reply.List x.1)) o

stays_meant : (o : Outcome) (refusal : Reply) (done : Bool) (c : Contents) (old new : List ℕ) → contents_of (Meant o) c ≡ c → Answered (Told o c) refusal done c c old new → Answered (Meant o) refusal done c c old new
stays_meant None refusal done c old new stays a = a
stays_meant (Some x) refusal done c old new stays a = record { ok = a.ok; contents = sym stays; bytes = a.bytes }

made_meant : (o : Outcome) (refusal : Reply) (c d : Contents) (old new : List ℕ) → option_map {U = Contents} (λ x. x.0) o ≡ Some d → Answered (Told o c) refusal true c c old new → Answered (Meant o) refusal true c d old new
made_meant None refusal c d old new is a = absurd cc
made_meant (Some x) refusal c d old new is a =
    let same : x.0 ≡ d = let k : Some x.0 ≡ Some d = is in cc in
    record { ok = a.ok; contents = sym same ∙ ap (λ b. cond b x.0 c) a.ok; bytes = a.bytes }

fails_meant : (o : Outcome) (refusal : Reply) (c : Contents) (old new : List ℕ) → option_map {U = Contents} (λ x. x.0) o ≡ None → Answered (Told o c) refusal false c c old new → Answered (Meant o) refusal false c c old new
fails_meant None refusal c old new is a = a
fails_meant (Some x) refusal c old new is a = absurd cc

-- ---- rows that were opened, and to which nothing was added, aren't long

opened_short : (r : Rows) (front : List ℕ) (most : ℕ) (b : Bool) → b ≡ is_long r → Opens r front most → b ≡ false
opened_short r front most false is opens = refl
opened_short r front most true is opens = absurd (omega (arith, opens.begins.long (sym is)))

whole_of : (whole found long : Bool) → whole ≡ (found && not long) → found ≡ true → long ≡ false → whole ≡ true
whole_of whole found long is f l = is ∙ ap (λ b. b && not long) f ∙ ap not l

not_found : (whole found long : Bool) → whole ≡ (found && not long) → found ≡ false → whole ≡ false
not_found whole found long is f = is ∙ ap (λ b. b && not long) f

module _ {S E : Type 0} (s : Ghosts S) (own : ℕ → Type 0) (layout : Files → Layout) (holds : E → Files → Contents → Type 0) where
  told_by_rows : (conditions : List (List ℕ)) (made : Result Bool RecErr) (r0 r1 : Rows) (begin : ℕ) (whole : Bool) (c : Contents) (old new : List ℕ)
      → begin ≡ length old → Opens r0 (old ++ no_rows) room → Extends r0 r1 → (gives : Gives made r1 begin Misc whole (counted r1 begin) new)
      → AreItems (option_map (λ o. o.1) (search_of conditions c)) gives.found r0 r1 → Answered (Told (search_of conditions c) c) reply.FailMisc whole c c old new
  told_by_rows conditions made r0 r1 begin whole c old new at opens ext gives items =
      let o = option_map (λ xs. reply.List xs) (option_map (λ o. o.1) (search_of conditions c)) in
      answered o Misc c r0 r1 no_rows room begin made whole old (counted r1 begin) new at opens ext gives
      (list_told o r0 r1 old begin gives.found at opens (texts_listed (option_map (λ o. o.1) (search_of conditions c)) r0 r1 gives.found items))

  pub search_answers : (conditions : List (List ℕ)) (result made : Result Bool RecErr) (r0 r1 : Rows) (begin : ℕ) (e e' : E) (a b : S) (old new : List ℕ)
      → begin ≡ length old → Opens r0 (old ++ no_rows) room → Extends r0 r1
      → IfOk made (λ done. Makes s own layout holds (found_by conditions) done e e' a b) → IfOk made (λ found. (c : Contents) → Held s holds e a c → AreItems (option_map (λ o. o.1) (search_of conditions c)) found r0 r1)
      → (takes_out conditions ≡ true → r1 ≡ r0) → (takes_out conditions ≡ false → Reads s (Held s holds) e e' a b) → Keeps s a b
      → IfOk result (λ whole. Gives made r1 begin Misc whole (counted r1 begin) new)
      → IfOk result (λ done. Answers s own layout holds (meant (misc.Search conditions)) reply.FailMisc (takes_out conditions) done e e' a b old new)
  search_answers conditions (Err x) made r0 r1 begin e e' a b old new at opens ext makes says quiet reads keeps gives = tt
  search_answers conditions (Ok whole) made r0 r1 begin e e' a b old new at opens ext makes says quiet reads keeps gives = go (takes_out conditions) refl gives.found refl
    where
      made_is : Makes s own layout holds (found_by conditions) gives.found e e' a b
      made_is = subst (λ (m : Result Bool RecErr). IfOk m (λ done. Makes s own layout holds (found_by conditions) done e e' a b)) gives.made_is makes

      told : (c : Contents) → Held s holds e a c → Answered (Told (search_of conditions c) c) reply.FailMisc whole c c old new
      told c h =
          told_by_rows conditions made r0 r1 begin whole c old new at opens ext gives
          (subst (λ (m : Result Bool RecErr). IfOk m (λ found. (c : Contents) → Held s holds e a c → AreItems (option_map (λ o. o.1) (search_of conditions c)) found r0 r1)) gives.made_is says c h)

      go : (takes : Bool) → takes ≡ takes_out conditions → (found : Bool) → found ≡ gives.found → Answers s own layout holds (meant (misc.Search conditions)) reply.FailMisc (takes_out conditions) whole e e' a b old new
      go false is found f =
          let r = reads (sym is) in
          read_answers s own layout holds (meant (misc.Search conditions)) reply.FailMisc (takes_out conditions) whole e e' a b old new r keeps
          (λ c h. stays_meant (search_of conditions c) reply.FailMisc whole c old new (search_idle conditions c (sym is)) (told c h))
      go true is true f =
          let m : Makes s own layout holds (found_by conditions) true e e' a b = subst (λ d. Makes s own layout holds (found_by conditions) d e e' a b) (sym f) made_is in
          let short : is_long r1 ≡ false = opened_short r1 (old ++ no_rows) room (is_long r1) refl (subst (λ r. Opens r (old ++ no_rows) room) (sym (quiet (sym is))) opens) in
          let stands : whole ≡ true = whole_of whole gives.found (is_long r1) gives.whole_is (sym f) short in
          subst (λ w. Answers s own layout holds (meant (misc.Search conditions)) reply.FailMisc (takes_out conditions) w e e' a b old new) (sym stands) (record {
            sound = m.sound;
            others = m.others;
            numbered = m.numbered;
            answered = λ c h. let g = m.made refl c h in (g.0, g.2, made_meant (search_of conditions c) reply.FailMisc c g.0 old new g.1 (subst (λ w. Answered (Told (search_of conditions c) c) reply.FailMisc w c c old new) stands (told c h)));
            idle = λ i. absurd (let never : true ≡ false = is ∙ i in cc);
          })
      go true is false f =
          let m : Makes s own layout holds (found_by conditions) false e e' a b = subst (λ d. Makes s own layout holds (found_by conditions) d e e' a b) (sym f) made_is in
          let fails : whole ≡ false = not_found whole gives.found (is_long r1) gives.whole_is (sym f) in
          subst (λ w. Answers s own layout holds (meant (misc.Search conditions)) reply.FailMisc (takes_out conditions) w e e' a b old new) (sym fails) (record {
            sound = m.sound;
            others = m.others;
            numbered = m.numbered;
            answered = λ c h. (c, (m.same refl).means c h, fails_meant (search_of conditions c) reply.FailMisc c old new (m.fails refl c h) (subst (λ w. Answered (Told (search_of conditions c) c) reply.FailMisc w c c old new) fails (told c h)));
            idle = λ i. only_reads s (Held s holds) e e' a b keeps (m.same refl);
          })

  -- where it is refused it has changed nothing, or the space is given up
  pub search_refused : (conditions : List (List ℕ)) (result made : Result Bool RecErr) (r0 r1 : Rows) (front : List ℕ) (most : ℕ) (e e' : E) (a b : S)
      → Opens r0 front most → IfOk made (λ done. Makes s own layout holds (found_by conditions) done e e' a b)
      → (takes_out conditions ≡ true → r1 ≡ r0) → (takes_out conditions ≡ false → Reads s (Held s holds) e e' a b)
      → Undone made r1 result → OnErr made (Refuses s (Held s holds) e e' a b) → OnErr result (Refuses s (Held s holds) e e' a b)
  search_refused conditions (Ok whole) made r0 r1 front most e e' a b opens makes quiet reads undone refused = tt
  search_refused conditions (Err x) (Err y) r0 r1 front most e e' a b opens makes quiet reads undone refused = refused
  search_refused conditions (Err x) (Ok false) r0 r1 front most e e' a b opens makes quiet reads undone refused = inr (makes.same refl)
  search_refused conditions (Err x) (Ok true) r0 r1 front most e e' a b opens makes quiet reads undone refused = go (takes_out conditions) refl
    where
      go : (takes : Bool) → takes ≡ takes_out conditions → Refuses s (Held s holds) e e' a b
      go false is = inr (reads (sym is))
      go true is =
          let short : is_long r1 ≡ false = opened_short r1 front most (is_long r1) refl (subst (λ r. Opens r front most) (sym (quiet (sym is))) opens) in
          absurd (let never : true ≡ false = sym (ap not short) ∙ undone true refl in cc)

module _ {S E : Type 0} (s : Ghosts S) (holds : E → Files → Contents → Type 0) where
  pub search_full : (fills : E → S → S → Contents → Contents → Type 0) (conditions : List (List ℕ)) (e : E) (a b : S) → takes_out conditions ≡ true → IsFull s holds fills (found_by conditions) e a b → IsFullBy s holds fills (meant (misc.Search conditions)) e a b
  search_full fills conditions e a b takes full = record { by = λ c h. subst (λ d. fills e a b c d) (quiet_wanted c (search_of conditions c) (search_quiet conditions c takes)) (full.by c h) }
