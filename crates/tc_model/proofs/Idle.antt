-- A request that updates nothing leaves the contents.
use Rattle.std.proofs.Common.{◌≡◌, ℕ, Bool, true, false, cond, List, [], ◌∷◌, refl, sym, ap, subst, ◌∙◌}
use Rattle.std.specs.Prelude.{◌&&◌, ◌||◌, ◌==◌, ◌%◌, ◌/◌, nat_lt, codes, filter_map, Option, Some, None, option_map, option_and_then, unwrap_or}
use Rattle.std.specs.List.{list_any, slice_split, onto_first, last_or}
use Rattle.std.specs.Cmp.Lexicographic.{same_text}
use Rattle.tc_base.specs.declared.request.Request.{Request}
use Rattle.tc_base.specs.declared.request.Request.TheVariants.{Put, PutKeep, PutCat, PutShl, PutNr, Out, Get, MGet, Vsiz, IterInit, IterNext, FwmKeys, AddInt, AddDouble, Ext, Sync, Optimize, Vanish, Copy, Restore, SetMst, Rnum, Size, Stat, Misc, Repl}
use Rattle.tc_base.specs.declared.request.Reply.{Reply}
use Rattle.tc_base.specs.declared.request.Reply.TheVariants as reply
use Rattle.tc_base.specs.declared.kind.Kind.{Kind}
use Rattle.tc_model.specs.declared.misc.Misc.{Misc as Call}
use Rattle.tc_model.specs.declared.misc.Misc.TheVariants as call
use Rattle.tc_model.specs.declared.query.Deed.{Deed}
use Rattle.tc_model.specs.declared.query.Deed.TheVariants as deed
use Rattle.tc_model.specs.declared.query.Query.{Query}
use Rattle.tc_base.specs.Texts.{is_text}
use Rattle.tc_model.specs.Texts.{is_among, parts, count_of, maximum_of}
use Rattle.tc_model.specs.Rows.{texts_of}
use Rattle.tc_model.specs.Contents.{Contents, hash, tree, fixed, table, Walk, kind_of, Rows, Indexes}
use Rattle.tc_model.specs.Stores.{held, all_keys}
use Rattle.tc_model.specs.Misc.{misc_of, pick, entries, Entry, updates_call, updating_names, one, bounds}
use Rattle.tc_model.specs.Queries.{Term, condition, ordering, limit, asks, term_of, deed_of, limit_of, ordering_of, way_of, condition_of, terms, made, query_of, as_condition, as_ordering, as_limit, as_deed}
use Rattle.tc_model.specs.Meaning.{Outcome, tells, meaning, done, done_with, searched, row_held, ranged, keys_of, are_short}
use Rattle.tc_model.specs.Operators.{is_operator, is_complete}
use Rattle.tc_model.specs.Search.{Found, found}
use Rattle.tc_model.specs.Apply.{Effect, apply, applied, effect, called, length_reply, refused, fits, told, took, stepped, next_in, copied, updates, is_updated}
use Rattle.tc_model.specs.Apply as model
use Rattle.tc_model.proofs.Failed.{apply_failed}

-- ---- a text is `out` only where it has one part

abbrev NotEmpty : List (List ℕ) → Type 0
NotEmpty [] = ⊥
NotEmpty (x ∷ xs) = Unit {0}

split_some : (p : ℕ → Bool) (xs : List ℕ) → NotEmpty (slice_split p xs)
split_some p [] = tt
split_some p (x ∷ xs) = go (p x) (slice_split p xs)
  where
    go : (b : Bool) (ps : List (List ℕ)) → NotEmpty (cond b ([] ∷ ps) (onto_first x ps))
    go true ps = tt
    go false [] = tt
    go false (q ∷ ps) = tt

onto_one : (x : ℕ) (ps : List (List ℕ)) (w : List ℕ) → NotEmpty ps → onto_first x ps ≡ w ∷ [] → (v : List ℕ) × (ps ≡ v ∷ []) × (x ∷ v ≡ w)
onto_one x [] w h e = absurd h
onto_one x (q ∷ ps) w h e = (q, cc, cc)

-- two parts are more than one
two_parts : (ps : List (List ℕ)) (w : List ℕ) → NotEmpty ps → [] ∷ ps ≡ w ∷ [] → ⊥
two_parts [] w h e = h
two_parts (q ∷ ps) w h e = cc

one_part : (p : ℕ → Bool) (xs w : List ℕ) → slice_split p xs ≡ w ∷ [] → xs ≡ w
one_part p [] w e = cc
one_part p (x ∷ xs) w e = go (p x) (one_part p xs) e
  where
    go : (b : Bool) → ((v : List ℕ) → slice_split p xs ≡ v ∷ [] → xs ≡ v) → cond b ([] ∷ slice_split p xs) (onto_first x (slice_split p xs)) ≡ w ∷ [] → x ∷ xs ≡ w
    go true rest e = absurd (two_parts (slice_split p xs) w (split_some p xs) e)
    go false rest e = let o = onto_one x (slice_split p xs) w (split_some p xs) e in ap (λ v. x ∷ v) (rest o.0 o.1) ∙ o.2

-- ---- without `out` among the arguments nothing is taken out

abbrev is_out : Deed → Bool
is_out deed.Out = true
is_out _ = false

abbrev asks_out : Option Term → Bool
asks_out (Some (asks deed.Out)) = true
asks_out _ = false

-- only the word itself asks for it
deed_out : (word : List ℕ) → asks_out (deed_of word) ≡ true → is_text word (codes "out") ≡ true
deed_out word = go (is_text word (codes "get")) (is_text word (codes "out")) (is_text word (codes "count"))
  where
    go : (a b d : Bool) → asks_out (cond a (Some (asks deed.Get)) (cond b (Some (asks deed.Out)) (cond d (Some (asks deed.Count)) None))) ≡ true → b ≡ true
    go a true d e = refl
    go true false d e = absurd cc
    go false false true e = absurd cc
    go false false false e = absurd cc

limit_asks : (m : List ℕ) (skip : Option ℕ) → asks_out (limit_of m skip) ≡ false
limit_asks m skip = go (maximum_of m) skip
  where
    go : (a : Option (Option ℕ)) (b : Option ℕ) → asks_out (option_and_then (λ most. option_map (λ n. limit most n) b) a) ≡ false
    go None b = refl
    go (Some a) None = refl
    go (Some a) (Some b) = refl

ordering_asks : (c t : List ℕ) → asks_out (ordering_of c t) ≡ false
ordering_asks c t = go (way_of t)
  where
    go : (w : Option ℕ) → asks_out (option_map (λ way. ordering (record { column = c; way = way })) w) ≡ false
    go None = refl
    go (Some w) = refl

condition_asks : (c e : List ℕ) (n : ℕ) → asks_out (condition_of c e n) ≡ false
condition_asks c e n = go (nat_lt n 67108864 && (is_operator (n % 16777216) && is_complete (n % 16777216) e))
  where
    go : (b : Bool) → asks_out (cond b (Some (condition (record { column = c; operator = n % 16777216; negated = n / 16777216 % 2 == 1; unindexed = n / 33554432 == 1; expression = e }))) None) ≡ false
    go true = refl
    go false = refl

OneWord : List (List ℕ) → Type 0
OneWord ps = (w : List ℕ) × (ps ≡ w ∷ []) × (is_text w (codes "out") ≡ true)

term_out : (ps : List (List ℕ)) → asks_out (term_of ps) ≡ true → OneWord ps
unfolding OneWord
term_out [] e = absurd cc
term_out (w ∷ []) e = (w, refl, deed_out w e)
term_out (w ∷ a ∷ []) e = go (is_text w (codes "setlimit")) e
  where
    go : (b : Bool) → asks_out (cond b (limit_of a (Some 0)) None) ≡ true → OneWord (w ∷ a ∷ [])
    go true e = absurd (let h = limit_asks a (Some 0) in cc)
    go false e = absurd cc
term_out (w ∷ a ∷ b ∷ []) e = go (is_text w (codes "setlimit")) (is_text w (codes "setorder")) e
  where
    go : (s t : Bool) → asks_out (cond s (limit_of a (count_of b)) (cond t (ordering_of a b) None)) ≡ true → OneWord (w ∷ a ∷ b ∷ [])
    go true t e = absurd (let h = limit_asks a (count_of b) in cc)
    go false true e = absurd (let h = ordering_asks a b in cc)
    go false false e = absurd cc
term_out (w ∷ column ∷ operator ∷ expression ∷ []) e = go (is_text w (codes "addcond")) (count_of operator) e
  where
    go : (s : Bool) (n : Option ℕ) → asks_out (cond s (option_and_then (condition_of column expression) n) None) ≡ true → OneWord (w ∷ column ∷ operator ∷ expression ∷ [])
    go true None e = absurd cc
    go true (Some n) e = absurd (let h = condition_asks column expression n in cc)
    go false n e = absurd cc
term_out (w ∷ a ∷ b ∷ d ∷ f ∷ rest) e = absurd cc

arg_out : (arg : List ℕ) → asks_out (term_of (parts arg)) ≡ true → is_text (codes "out") arg ≡ true
unfolding OneWord
arg_out arg e =
    let o = term_out (parts arg) e in
    let same : arg ≡ codes "out" = one_part (λ b. b == 0) arg o.0 o.1 ∙ same_text o.0 (codes "out") (sym o.2) in
    ap (is_text (codes "out")) same

-- what is read of the first argument and of the others
Read : Option Term → Option (List Term) → List Term → Type 0
Read o u ts = (t : Term) × (us : List Term) × (o ≡ Some t) × (u ≡ Some us) × (t ∷ us ≡ ts)

read_both : (o : Option Term) (u : Option (List Term)) (ts : List Term) → option_and_then (λ t. option_map (λ us. t ∷ us) u) o ≡ Some ts → Read o u ts
unfolding Read
read_both None u ts e = absurd cc
read_both (Some t) None ts e = absurd cc
read_both (Some t) (Some us) ts e = (t, us, refl, refl, cc)

any_parts : (a b : Bool) → (a || b) ≡ false → (a ≡ false) × (b ≡ false)
any_parts true b e = absurd cc
any_parts false b e = (refl, e)

deeds_of : (t : Term) (us : List Term) → asks_out (Some t) ≡ false → list_any is_out (filter_map as_deed us) ≡ false → list_any is_out (filter_map as_deed (t ∷ us)) ≡ false
deeds_of (condition x) us a h = h
deeds_of (ordering x) us a h = h
deeds_of (limit x y) us a h = h
deeds_of (asks deed.Keys) us a h = h
deeds_of (asks deed.Get) us a h = h
deeds_of (asks deed.Out) us a h = absurd cc
deeds_of (asks deed.Count) us a h = h

not_true : (b : Bool) → (b ≡ true → ⊥) → b ≡ false
not_true true h = absurd (h refl)
not_true false h = refl

no_out : (args : List (List ℕ)) (ts : List Term) → terms args ≡ Some ts → is_among (codes "out") args ≡ false → list_any is_out (filter_map as_deed ts) ≡ false
unfolding Read
no_out [] ts e h = let same : [] ≡ ts = cc in ap (λ us. list_any is_out (filter_map as_deed us)) (sym same)
no_out (arg ∷ args) ts e h =
    let r = read_both (term_of (parts arg)) (terms args) ts e in
    let both = any_parts (is_text (codes "out") arg) (is_among (codes "out") args) h in
    let rest = no_out args r.1 r.3 both.1 in
    let head = not_true (asks_out (Some r.0)) (λ y. let z = arg_out arg (ap asks_out r.2 ∙ y) in let u = both.0 in cc) in
    ap (λ us. list_any is_out (filter_map as_deed us)) (sym r.4) ∙ deeds_of r.0 r.1 head rest

made_deed : (ts : List Term) (ds : List Deed) (l : Option ℕ × ℕ) (q : Query) → made ts ds l ≡ Some q → list_any is_out ds ≡ false → is_out q.deed ≡ false
made_deed ts [] l q e h = let same : record { conds = filter_map as_condition ts; sort = last_or None (filter_map as_ordering ts); maximum = l.0; skip = l.1; deed = deed.Keys } ≡ q = cc in ap (λ (x : Query). is_out x.deed) (sym same)
made_deed ts (d ∷ []) l q e h =
    let same : record { conds = filter_map as_condition ts; sort = last_or None (filter_map as_ordering ts); maximum = l.0; skip = l.1; deed = d } ≡ q = cc in
    ap (λ (x : Query). is_out x.deed) (sym same) ∙ (any_parts (is_out d) false h).0
made_deed ts (d ∷ f ∷ ds) l q e h = absurd cc

query_deed : (args : List (List ℕ)) (q : Query) → query_of args ≡ Some q → is_among (codes "out") args ≡ false → is_out q.deed ≡ false
unfolding query_of
query_deed args q e h = go (terms args) (no_out args) e
  where
    go : (o : Option (List Term)) → ((ts : List Term) → o ≡ Some ts → is_among (codes "out") args ≡ false → list_any is_out (filter_map as_deed ts) ≡ false)
        → option_and_then (λ ts. made ts (filter_map as_deed ts) (unwrap_or (last_or None (filter_map as_limit ts)) (None, 0))) o ≡ Some q → is_out q.deed ≡ false
    go None none e = absurd cc
    go (Some ts) none e = made_deed ts (filter_map as_deed ts) (unwrap_or (last_or None (filter_map as_limit ts)) (None, 0)) q e (none ts refl h)

-- ---- calls that update nothing

-- an outcome, if there is one, leaves the contents
abbrev Keeps : Contents → Outcome → Type 0
Keeps c None = Unit {0}
Keeps c (Some o) = o.0 ≡ c

tells_keeps : (c : Contents) (o : Option (List (List ℕ))) → Keeps c (tells c o)
tells_keeps c None = tt
tells_keeps c (Some items) = refl

done_with_keeps : (d : Deed) (rows : Rows) (indexes : Indexes) (fs : List Found) → is_out d ≡ false → (done_with d rows indexes fs).0 ≡ table rows indexes
done_with_keeps deed.Keys rows indexes fs e = refl
done_with_keeps deed.Get rows indexes fs e = refl
done_with_keeps deed.Out rows indexes fs e = absurd cc
done_with_keeps deed.Count rows indexes fs e = refl

searched_keeps : (c : Contents) (q : Query) → is_out q.deed ≡ false → Keeps c (searched c q)
searched_keeps (table rows indexes) q e = done_with_keeps q.deed rows indexes (found q rows) e
searched_keeps (hash memory m) q e = tt
searched_keeps (tree memory decimal ps) q e = tt
searched_keeps (fixed width most ids) q e = tt

-- the calls that read
abbrev OnlyReads : Call → Type 0
OnlyReads (call.Get key) = Unit {0}
OnlyReads (call.GetRow key) = Unit {0}
OnlyReads (call.GetList keys) = Unit {0}
OnlyReads (call.Range from maximum to) = Unit {0}
OnlyReads (call.Search conditions) = is_among (codes "out") conditions ≡ false
OnlyReads _ = ⊥

search_keeps : (c : Contents) (args : List (List ℕ)) → is_among (codes "out") args ≡ false → Keeps c (option_and_then (searched c) (query_of args))
search_keeps c args h = go (query_of args) (query_deed args)
  where
    go : (o : Option Query) → ((q : Query) → o ≡ Some q → is_among (codes "out") args ≡ false → is_out q.deed ≡ false) → Keeps c (option_and_then (searched c) o)
    go None d = tt
    go (Some q) d = searched_keeps c q (d q refl h)

meaning_keeps : (m : Call) (c : Contents) → OnlyReads m → Keeps c (meaning m c)
meaning_keeps (call.Get key) c h = tells_keeps c (option_map (λ value. value ∷ []) (held c key))
meaning_keeps (call.GetRow key) c h = tells_keeps c (option_map texts_of (row_held c key))
meaning_keeps (call.GetList keys) c h = refl
meaning_keeps (call.Range from maximum to) c h = tells_keeps c (option_map (λ most. texts_of (ranged c from to most)) (maximum_of maximum))
meaning_keeps (call.Search conditions) c h = search_keeps c conditions h
meaning_keeps _ c h = absurd h

done_keeps : (m : Call) (c : Contents) → OnlyReads m → Keeps c (done m c)
unfolding done
done_keeps m c h = go (are_short (keys_of m)) (meaning_keeps m c h)
  where
    go : (b : Bool) → Keeps c (meaning m c) → Keeps c (cond b (meaning m c) None)
    go true k = k
    go false k = tt

-- ---- the names that update nothing are of calls that read

abbrev Reading : Entry → Type 0
Reading e = (args : List (List ℕ)) (m : Call) → updates_call e.0 args ≡ false → e.2 args ≡ Some m → OnlyReads m

reads_at : (m n : Call) → Some m ≡ Some n → OnlyReads m → OnlyReads n
reads_at m n e h = let same : m ≡ n = cc in subst OnlyReads same h

stores : (name : List ℕ) (args : List (List ℕ)) → is_among name updating_names ≡ true → updates_call name args ≡ false → ⊥
stores name args t u = let a = any_parts (is_among name updating_names) (is_text name (codes "search") && is_among (codes "out") args) u in let b = a.0 in cc

one_reads : (f : List ℕ → Call) (args : List (List ℕ)) (m : Call) → ((x : List ℕ) → OnlyReads (f x)) → one f args ≡ Some m → OnlyReads m
one_reads f [] m h e = absurd cc
one_reads f (x ∷ []) m h e = reads_at (f x) m e (h x)
one_reads f (x ∷ y ∷ rest) m h e = absurd cc

bounds_read : (args : List (List ℕ)) (m : Call) → bounds args ≡ Some m → OnlyReads m
bounds_read [] m e = absurd cc
bounds_read (a ∷ []) m e = absurd cc
bounds_read (a ∷ b ∷ []) m e = reads_at (call.Range a b None) m e tt
bounds_read (a ∷ b ∷ d ∷ []) m e = reads_at (call.Range a b (Some d)) m e tt
bounds_read (a ∷ b ∷ d ∷ f ∷ rest) m e = absurd cc

abbrev AllRead : List Entry → Type 0
AllRead [] = Unit {0}
AllRead (e ∷ es) = Reading e × AllRead es

entries_read : AllRead entries
entries_read = (
  (λ args m u e. absurd (stores (codes "put") args refl u)),
  (
    (λ args m u e. absurd (stores (codes "putkeep") args refl u)),
    (
      (λ args m u e. absurd (stores (codes "putcat") args refl u)),
      (
        (λ args m u e. one_reads (λ key. call.Get key) args m (λ x. tt) e),
        (
          (λ args m u e. absurd (stores (codes "out") args refl u)),
          (
            (λ args m u e. absurd (stores (codes "put") args refl u)),
            (
              (λ args m u e. absurd (stores (codes "putkeep") args refl u)),
              (
                (λ args m u e. absurd (stores (codes "putcat") args refl u)),
                (
                  (λ args m u e. one_reads (λ key. call.GetRow key) args m (λ x. tt) e),
                  (
                    (λ args m u e. absurd (stores (codes "putlist") args refl u)),
                    (
                      (λ args m u e. absurd (stores (codes "putlist") args refl u)),
                      (
                        (λ args m u e. absurd (stores (codes "outlist") args refl u)),
                        (
                          (λ args m u e. reads_at (call.GetList args) m e tt),
                          (
                            (λ args m u e. absurd (stores (codes "putdup") args refl u)),
                            (
                              (λ args m u e. bounds_read args m e),
                              (
                                (λ args m u e. absurd (stores (codes "vanish") args refl u)),
                                (
                                  (λ args m u e. absurd (stores (codes "setindex") args refl u)),
                                  (
                                    (λ args m u e. reads_at (call.Search args) m e u),
                                    tt,
                                  ),
                                ),
                              ),
                            ),
                          ),
                        ),
                      ),
                    ),
                  ),
                ),
              ),
            ),
          ),
        ),
      ),
    ),
  ),
)

pick_reads : (es : List Entry) → AllRead es → (name : List ℕ) (k : Kind) (args : List (List ℕ)) (m : Call) → pick es name k args ≡ Some m → updates_call name args ≡ false → OnlyReads m
pick_reads [] h name k args m e u = absurd cc
pick_reads (x ∷ es) h name k args m e u = go (is_text name x.0) (x.1 k) refl (pick_reads es h.1 name k args m) e
  where
    go : (b d : Bool) → b ≡ is_text name x.0 → (pick es name k args ≡ Some m → updates_call name args ≡ false → OnlyReads m) → cond (b && d) (x.2 args) (pick es name k args) ≡ Some m → OnlyReads m
    go true true t rest p = h.0 args m (subst (λ n. updates_call n args ≡ false) (same_text name x.0 t) u) p
    go true false t rest p = rest p u
    go false d t rest p = rest p u

misc_reads : (name : List ℕ) (args : List (List ℕ)) (k : Kind) (m : Call) → misc_of name args k ≡ Some m → updates_call name args ≡ false → OnlyReads m
unfolding misc_of
misc_reads name args k m e u = pick_reads entries entries_read name k args m e u

-- ---- requests

-- an effect, if there is one, leaves the contents
abbrev KeepsAll : Contents → Effect → Type 0
KeepsAll c None = Unit {0}
KeepsAll c (Some e) = e.0 ≡ c

tells_all : (c : Contents) (o : Option Reply) → KeepsAll c (model.tells c o)
tells_all c None = tt
tells_all c (Some a) = refl

called_keeps : (name : List ℕ) (options : ℕ) (args : List (List ℕ)) (c : Contents) → updates_call name args ≡ false → KeepsAll c (called name options args c)
called_keeps name options args c u = go (options % 2 == 1 && updates_call name args) (misc_of name args (kind_of c)) (misc_reads name args (kind_of c))
  where
    listed : (o : Outcome) → Keeps c o → KeepsAll c (option_map (λ x. (x.0, reply.List x.1)) o)
    listed None k = tt
    listed (Some x) k = k

    go : (b : Bool) (o : Option Call) → ((m : Call) → o ≡ Some m → updates_call name args ≡ false → OnlyReads m)
        → KeepsAll c (cond b None (option_map (λ x. (x.0, reply.List x.1)) (option_and_then (λ m. done m c) o)))
    go true o h = tt
    go false None h = tt
    go false (Some m) h = listed (done m c) (done_keeps m c (h m refl u))

effect_keeps : (r : Request) (c : Contents) → updates r ≡ false → KeepsAll c (effect r c)
effect_keeps (Get key) c u = tells_all c (option_map (λ value. reply.Value value) (held c key))
effect_keeps (MGet keys) c u = refl
effect_keeps (Vsiz key) c u = tells_all c (option_and_then length_reply (held c key))
effect_keeps (FwmKeys prefix maximum) c u = refl
effect_keeps Sync c u = refl
effect_keeps (Optimize text) c u = refl
effect_keeps Rnum c u = refl
effect_keeps Size c u = refl
effect_keeps Stat c u = refl
effect_keeps (Misc name options args) c u = called_keeps name options args c u
effect_keeps (Put key value) c u = absurd cc
effect_keeps (PutKeep key value) c u = absurd cc
effect_keeps (PutCat key value) c u = absurd cc
effect_keeps (PutShl key value width) c u = absurd cc
effect_keeps (PutNr key value) c u = absurd cc
effect_keeps (Out key) c u = absurd cc
effect_keeps (AddInt key number) c u = absurd cc
effect_keeps Vanish c u = absurd cc
effect_keeps IterInit c u = tt
effect_keeps IterNext c u = tt
effect_keeps (AddDouble key integer fraction) c u = tt
effect_keeps (Ext name options key value) c u = tt
effect_keeps (Copy path) c u = tells_all c (copied path c)
effect_keeps (Restore path timestamp options) c u = tt
effect_keeps (SetMst host port timestamp options) c u = tt
effect_keeps (Repl timestamp server) c u = tt

told_keeps : (r : Request) (a : Reply) (after : Contents) (walk : Walk) (c : Contents) (w : Walk) → after ≡ c → (told r a after walk c w).contents ≡ c
told_keeps r a after walk c w k = go (fits a)
  where
    go : (b : Bool) → (cond b (record { contents = after; walk = walk; reply = a; ok = true }) (refused r c w)).contents ≡ c
    go true = k
    go false = refl

took_keeps : (r : Request) (e : Effect) (c : Contents) (w : Walk) → KeepsAll c e → (took r e c w).contents ≡ c
took_keeps r None c w k = refl
took_keeps r (Some e) c w k = told_keeps r e.1 e.0 w c w k

stepped_keeps : (r : Request) (n : Option (List ℕ × List (List ℕ))) (c : Contents) (w : Walk) → (stepped r n c w).contents ≡ c
stepped_keeps r None c w = refl
stepped_keeps r (Some n) c w = told_keeps r (reply.Value n.0) c (Some n.1) c w refl

-- a request that isn't one that updates leaves the contents
applied_keeps : (r : Request) (c : Contents) (w : Walk) → updates r ≡ false → (applied r c w).contents ≡ c
applied_keeps IterInit c w u = told_keeps IterInit reply.Done c (Some (all_keys c)) c w refl
applied_keeps IterNext c w u = stepped_keeps IterNext (next_in c w) c w
applied_keeps (Repl timestamp server) c w u = refl
applied_keeps (Put key value) c w u = took_keeps (Put key value) (effect (Put key value) c) c w (effect_keeps (Put key value) c u)
applied_keeps (PutKeep key value) c w u = took_keeps (PutKeep key value) (effect (PutKeep key value) c) c w (effect_keeps (PutKeep key value) c u)
applied_keeps (PutCat key value) c w u = took_keeps (PutCat key value) (effect (PutCat key value) c) c w (effect_keeps (PutCat key value) c u)
applied_keeps (PutShl key value width) c w u = took_keeps (PutShl key value width) (effect (PutShl key value width) c) c w (effect_keeps (PutShl key value width) c u)
applied_keeps (PutNr key value) c w u = took_keeps (PutNr key value) (effect (PutNr key value) c) c w (effect_keeps (PutNr key value) c u)
applied_keeps (Out key) c w u = took_keeps (Out key) (effect (Out key) c) c w (effect_keeps (Out key) c u)
applied_keeps (Get key) c w u = took_keeps (Get key) (effect (Get key) c) c w (effect_keeps (Get key) c u)
applied_keeps (MGet keys) c w u = took_keeps (MGet keys) (effect (MGet keys) c) c w (effect_keeps (MGet keys) c u)
applied_keeps (Vsiz key) c w u = took_keeps (Vsiz key) (effect (Vsiz key) c) c w (effect_keeps (Vsiz key) c u)
applied_keeps (FwmKeys prefix maximum) c w u = took_keeps (FwmKeys prefix maximum) (effect (FwmKeys prefix maximum) c) c w (effect_keeps (FwmKeys prefix maximum) c u)
applied_keeps (AddInt key number) c w u = took_keeps (AddInt key number) (effect (AddInt key number) c) c w (effect_keeps (AddInt key number) c u)
applied_keeps Sync c w u = took_keeps Sync (effect Sync c) c w (effect_keeps Sync c u)
applied_keeps (Optimize text) c w u = took_keeps (Optimize text) (effect (Optimize text) c) c w (effect_keeps (Optimize text) c u)
applied_keeps Vanish c w u = took_keeps Vanish (effect Vanish c) c w (effect_keeps Vanish c u)
applied_keeps Rnum c w u = took_keeps Rnum (effect Rnum c) c w (effect_keeps Rnum c u)
applied_keeps Size c w u = took_keeps Size (effect Size c) c w (effect_keeps Size c u)
applied_keeps Stat c w u = took_keeps Stat (effect Stat c) c w (effect_keeps Stat c u)
applied_keeps (Misc name options args) c w u = took_keeps (Misc name options args) (effect (Misc name options args) c) c w (effect_keeps (Misc name options args) c u)
applied_keeps (AddDouble key integer fraction) c w u = refl
applied_keeps (Ext name options key value) c w u = refl
applied_keeps (Copy path) c w u = took_keeps (Copy path) (effect (Copy path) c) c w (effect_keeps (Copy path) c u)
applied_keeps (Restore path timestamp options) c w u = refl
applied_keeps (SetMst host port timestamp options) c w u = refl

applied_or_refused : (replica : Bool) (r : Request) (c : Contents) (w : Walk) → updates r ≡ false → (apply replica r c w).contents ≡ c
unfolding apply
applied_or_refused replica r c w u = go (replica && updates r)
  where
    go : (b : Bool) → (cond b (refused r c w) (applied r c w)).contents ≡ c
    go true = refl
    go false = applied_keeps r c w u

-- contents are as they were where they aren't updated
pub apply_idle : (replica : Bool) (r : Request) (c : Contents) (w : Walk) → is_updated r (apply replica r c w) ≡ false → (apply replica r c w).contents ≡ c
apply_idle replica r c w e = go (apply replica r c w).ok (updates r) refl refl e
  where
    unupdated : updates r ≡ false → (apply replica r c w).contents ≡ c
    unupdated u = applied_or_refused replica r c w u

    go : (ok u : Bool) → ok ≡ (apply replica r c w).ok → u ≡ updates r → (ok && u) ≡ false → (apply replica r c w).contents ≡ c
    go false u o v e = (apply_failed replica r c w (sym o)).0
    go true false o v e = unupdated (sym v)
    go true true o v e = absurd cc
