-- Contents stay well formed, whatever is asked of them.
use Rattle.std.proofs.Common.{◌≡◌, ℕ, ◌+◌, ◌≤◌, Bool, true, false, cond, List, [], ◌∷◌, refl, sym, ap, ◌∙◌, arith}
use Rattle.std.proofs.lemmas.Bool.{ltb-true}
use Rattle.std.specs.Prelude.{◌&&◌, ◌||◌, ◌==◌, ◌-◌, ◌%◌, Option, Some, None, option_map, option_and_then, is_some, nat_lt, fold}
use Rattle.std.specs.Ordering.{nat_cmp}
use Rattle.std.specs.Cmp.{nat_cmp_total}
use Rattle.std.specs.Cmp.Lexicographic.{slice_cmp, nat_list_cmp_total}
use Rattle.std.specs.FinMap.{nat_cmp-IsAntisymmetric, empty, get, insert, remove, len, len-insert, len-remove, len-empty}
use Rattle.tc_base.specs.declared.seq.Pair.{Pair}
use Rattle.tc_base.specs.declared.kind.Kind.{Kind}
use Rattle.tc_base.specs.declared.kind.Kind.TheVariants as kind
use Rattle.tc_base.specs.declared.kind.Mode.TheVariants.{Over, Keep, Cat}
use Rattle.tc_base.specs.declared.request.Request.{Request}
use Rattle.tc_base.specs.declared.request.Request.TheVariants.{Put, PutKeep, PutCat, PutShl, PutNr, Out, Get, MGet, Vsiz, IterInit, IterNext, FwmKeys, AddInt, AddDouble, Ext, Sync, Optimize, Vanish, Copy, Restore, SetMst, Rnum, Size, Stat, Misc, Repl}
use Rattle.tc_base.specs.declared.request.Reply.{Reply}
use Rattle.tc_base.specs.declared.request.Reply.TheVariants as reply
use Rattle.tc_model.specs.declared.misc.Misc.{Misc as Call}
use Rattle.tc_model.specs.declared.misc.Misc.TheVariants as call
use Rattle.tc_model.specs.declared.query.IndexKind.{IndexKind}
use Rattle.tc_model.specs.declared.query.Deed.{Deed}
use Rattle.tc_model.specs.declared.query.Deed.TheVariants as deed
use Rattle.tc_model.specs.declared.query.Query.{Query}
use Rattle.tc_model.specs.Texts.{not_empty, maximum_of}
use Rattle.tc_model.specs.Rows.{is_part, row_of_call, texts_of}
use Rattle.tc_model.specs.Contents.{Contents, hash, tree, fixed, table, Walk, Rows, Indexes, no_data, kind_of}
use Rattle.tc_model.specs.Stores.{held, all_keys, store, store_row, shift, add, out, clear, put_last}
use Rattle.tc_model.specs.Misc.{misc_of, updates_call}
use Rattle.tc_model.specs.Queries.{query_of}
use Rattle.tc_model.specs.Search.{Found, found}
use Rattle.tc_model.specs.Meaning.{Outcome, changes, tells, each, index_of, with_index, set_index, without_rows, done_with, searched, row_held, ranged, meaning, keys_of, are_short, done}
use Rattle.tc_model.specs.Apply.{Effect, apply, applied, effect, called, length_reply, refused, fits, told, took, stepped, next_in, copied, updates}
use Rattle.tc_model.specs.Apply as model
use Rattle.tc_model.specs.Replay.{replayed, after}
use Rattle.tc_model.specs.Well.{AreRows, IsRow, IsCell, IsWell}
use Rattle.tc_model.proofs.MapLaws.{bytes_same}
use Rattle.tc_model.proofs.RowLaws.{row_of_call_row}
use Rattle.tc_model.proofs.WellStores.{MayBeWell, MayBeSum, none_held, row_removed, row_stored, store_well, shift_well, add_well, out_well, clear_well, put_last_well, emptied_well}

-- ---- misc

abbrev OutcomeWell : Outcome → Type 0
OutcomeWell None = Unit {0}
OutcomeWell (Some o) = IsWell o.0

changes_well : (o : Option Contents) → MayBeWell o → OutcomeWell (changes o)
changes_well None h = tt
changes_well (Some c) h = h

tells_well : (c : Contents) (o : Option (List (List ℕ))) → IsWell c → OutcomeWell (tells c o)
tells_well c None h = tt
tells_well c (Some items) h = h

each_none : (f : Contents → Pair → Option Contents) (ps : List Pair) → MayBeWell (each f None ps)
each_none f [] = tt
each_none f (p ∷ ps) = each_none f ps

each_well : (f : Contents → Pair → Option Contents) → ((c : Contents) (p : Pair) → IsWell c → MayBeWell (f c p)) → (o : Option Contents) (ps : List Pair) → MayBeWell o → MayBeWell (each f o ps)
each_well f k o [] h = h
each_well f k None (p ∷ ps) h = each_none f ps
each_well f k (Some c) (p ∷ ps) h = each_well f k (f c p) ps (k c p h)

cleared_well : (keys : List (List ℕ)) (c : Contents) → IsWell c → IsWell (fold clear c keys)
cleared_well [] c h = h
cleared_well (key ∷ keys) c h = cleared_well keys (clear c key) (clear_well c key h)

MayBeFew : Option Indexes → Type 0
MayBeFew None = Unit {0}
MayBeFew (Some indexes) = len indexes ≤ 16

with_index_few : (indexes : Indexes) (column : List ℕ) (t : Option IndexKind) → len indexes ≤ 16 → MayBeFew (with_index indexes column t)
unfolding MayBeFew
with_index_few indexes column None n = go (is_some (get indexes column)) refl
  where
    less : (b : Bool) → len (remove indexes column) ≡ cond b (len indexes - 1) (len indexes) → len (remove indexes column) ≤ 16
    less true e = omega arith
    less false e = omega arith

    go : (b : Bool) → b ≡ is_some (get indexes column) → MayBeFew (cond b (Some (remove indexes column)) None)
    go true e = less (is_some (get indexes column)) (len-remove nat_list_cmp_total indexes column)
    go false e = tt
with_index_few indexes column (Some t) n = go (is_some (get indexes column)) (nat_lt (len indexes) 16) refl refl
  where
    go : (b d : Bool) → b ≡ is_some (get indexes column) → d ≡ nat_lt (len indexes) 16 → MayBeFew (cond (b || d) (Some (insert indexes column t)) None)
    go true d e f = let l = len-insert nat_list_cmp_total indexes column t in let m : len (insert indexes column t) ≡ len indexes = l ∙ ap (λ b. cond b (len indexes) (len indexes + 1)) (sym e) in omega arith
    go false true e f = let l = len-insert nat_list_cmp_total indexes column t in let m : len (insert indexes column t) ≡ len indexes + 1 = l ∙ ap (λ b. cond b (len indexes) (len indexes + 1)) (sym e) in let k = ltb-true (len indexes) 16 (sym f) in omega arith
    go false false e f = tt

set_index_well : (c : Contents) (column code : List ℕ) → IsWell c → MayBeWell (set_index c column code)
unfolding MayBeFew
set_index_well (table rows indexes) column code h = go (not_empty column && is_part column) (index_of code)
  where
    inside : (o : Option Indexes) → MayBeFew o → MayBeWell (option_map (λ after. table rows after) o)
    inside None n = tt
    inside (Some after) n = (h.0, n)

    go : (b : Bool) (t : Option (Option IndexKind)) → MayBeWell (cond b (option_map (λ after. table rows after) (option_and_then (with_index indexes column) t)) None)
    go false t = tt
    go true None = tt
    go true (Some t) = inside (with_index indexes column t) (with_index_few indexes column t h.1)
set_index_well (hash memory m) column code h = tt
set_index_well (tree memory decimal ps) column code h = tt
set_index_well (fixed width most ids) column code h = tt

rows_left : (fs : List Found) (rows : Rows) → AreRows rows → AreRows (without_rows rows fs)
rows_left [] rows h = h
rows_left (f ∷ fs) rows h = rows_left fs (remove rows f.0) (row_removed rows f.0 h)

done_with_well : (d : Deed) (rows : Rows) (indexes : Indexes) (fs : List Found) → IsWell (table rows indexes) → IsWell (done_with d rows indexes fs).0
done_with_well deed.Keys rows indexes fs h = h
done_with_well deed.Get rows indexes fs h = h
done_with_well deed.Out rows indexes fs h = (rows_left fs rows h.0, h.1)
done_with_well deed.Count rows indexes fs h = h

searched_well : (c : Contents) (q : Query) → IsWell c → OutcomeWell (searched c q)
searched_well (table rows indexes) q h = done_with_well q.deed rows indexes (found q rows) h
searched_well (hash memory m) q h = tt
searched_well (tree memory decimal ps) q h = tt
searched_well (fixed width most ids) q h = tt

meaning_well : (m : Call) (c : Contents) → IsWell c → OutcomeWell (meaning m c)
meaning_well (call.Put mode key value) c h = changes_well (store mode c key value) (store_well mode c key value h)
meaning_well (call.PutRow mode key columns) c h = changes_well (option_and_then (store_row mode c key) (row_of_call columns)) (row_stored mode c key (row_of_call columns) h (row_of_call_row columns))
meaning_well (call.Out key) c h = changes_well (out c key) (out_well c key h)
meaning_well (call.Get key) c h = tells_well c (option_map (λ value. value ∷ []) (held c key)) h
meaning_well (call.GetRow key) c h = tells_well c (option_map texts_of (row_held c key)) h
meaning_well (call.PutList pairs) c h = changes_well (each (λ c p. store Over c p.key p.value) (Some c) pairs) (each_well (λ c p. store Over c p.key p.value) (λ c p k. store_well Over c p.key p.value k) (Some c) pairs h)
meaning_well (call.PutDups pairs) c h = changes_well (each (λ c p. put_last c p.key p.value) (Some c) pairs) (each_well (λ c p. put_last c p.key p.value) (λ c p k. put_last_well c p.key p.value k) (Some c) pairs h)
meaning_well (call.OutList keys) c h = cleared_well keys c h
meaning_well (call.GetList keys) c h = h
meaning_well (call.PutDup key value) c h = changes_well (put_last c key value) (put_last_well c key value h)
meaning_well (call.Range from maximum to) c h = tells_well c (option_map (λ most. texts_of (ranged c from to most)) (maximum_of maximum)) h
meaning_well call.Vanish c h = emptied_well c h
meaning_well (call.SetIndex column code) c h = changes_well (set_index c column code) (set_index_well c column code h)
meaning_well (call.Search conditions) c h = go (query_of conditions)
  where
    go : (o : Option Query) → OutcomeWell (option_and_then (searched c) o)
    go None = tt
    go (Some q) = searched_well c q h

done_well : (m : Call) (c : Contents) → IsWell c → OutcomeWell (done m c)
unfolding done
done_well m c h = go (are_short (keys_of m))
  where
    go : (b : Bool) → OutcomeWell (cond b (meaning m c) None)
    go true = meaning_well m c h
    go false = tt

-- ---- requests

abbrev EffectWell : Effect → Type 0
EffectWell None = Unit {0}
EffectWell (Some e) = IsWell e.0

changed_well : (a : Reply) (o : Option Contents) → MayBeWell o → EffectWell (model.changes a o)
changed_well a None h = tt
changed_well a (Some c) h = h

told_well : (c : Contents) (o : Option Reply) → IsWell c → EffectWell (model.tells c o)
told_well c None h = tt
told_well c (Some a) h = h

called_well : (name : List ℕ) (options : ℕ) (args : List (List ℕ)) (c : Contents) → IsWell c → EffectWell (called name options args c)
called_well name options args c h = go (options % 2 == 1 && updates_call name args) (misc_of name args (kind_of c))
  where
    listed : (o : Outcome) → OutcomeWell o → EffectWell (option_map (λ x. (x.0, reply.List x.1)) o)
    listed None k = tt
    listed (Some x) k = k

    go : (b : Bool) (o : Option Call) → EffectWell (cond b None (option_map (λ x. (x.0, reply.List x.1)) (option_and_then (λ m. done m c) o)))
    go true o = tt
    go false None = tt
    go false (Some m) = listed (done m c) (done_well m c h)

added_well : (o : Option (ℕ × Contents)) → MayBeSum o → EffectWell (option_map (λ sum. (sum.1, reply.Four sum.0)) o)
added_well None h = tt
added_well (Some x) h = h

effect_well : (r : Request) (c : Contents) → IsWell c → EffectWell (effect r c)
effect_well (Put key value) c h = changed_well reply.Done (store Over c key value) (store_well Over c key value h)
effect_well (PutKeep key value) c h = changed_well reply.Done (store Keep c key value) (store_well Keep c key value h)
effect_well (PutCat key value) c h = changed_well reply.Done (store Cat c key value) (store_well Cat c key value h)
effect_well (PutShl key value width) c h = changed_well reply.Done (shift c key value width) (shift_well c key value width h)
effect_well (PutNr key value) c h = changed_well reply.Silent (store Over c key value) (store_well Over c key value h)
effect_well (Out key) c h = changed_well reply.Done (out c key) (out_well c key h)
effect_well (Get key) c h = told_well c (option_map (λ value. reply.Value value) (held c key)) h
effect_well (MGet keys) c h = h
effect_well (Vsiz key) c h = told_well c (option_and_then length_reply (held c key)) h
effect_well (FwmKeys prefix maximum) c h = h
effect_well (AddInt key number) c h = added_well (add c key number) (add_well c key number h)
effect_well Sync c h = h
effect_well (Optimize text) c h = h
effect_well Vanish c h = emptied_well c h
effect_well Rnum c h = h
effect_well Size c h = h
effect_well Stat c h = h
effect_well (Misc name options args) c h = called_well name options args c h
effect_well IterInit c h = tt
effect_well IterNext c h = tt
effect_well (AddDouble key integer fraction) c h = tt
effect_well (Ext name options key value) c h = tt
effect_well (Copy path) c h = told_well c (copied path c) h
effect_well (Restore path timestamp options) c h = tt
effect_well (SetMst host port timestamp options) c h = tt
effect_well (Repl timestamp server) c h = tt

step_well : (r : Request) (a : Reply) (after : Contents) (walk : Walk) (c : Contents) (w : Walk) → IsWell after → IsWell c → IsWell (told r a after walk c w).contents
step_well r a after walk c w k h = go (fits a)
  where
    go : (b : Bool) → IsWell (cond b (record { contents = after; walk = walk; reply = a; ok = true }) (refused r c w)).contents
    go true = k
    go false = h

took_well : (r : Request) (e : Effect) (c : Contents) (w : Walk) → EffectWell e → IsWell c → IsWell (took r e c w).contents
took_well r None c w k h = h
took_well r (Some e) c w k h = step_well r e.1 e.0 w c w k h

stepped_well : (r : Request) (n : Option (List ℕ × List (List ℕ))) (c : Contents) (w : Walk) → IsWell c → IsWell (stepped r n c w).contents
stepped_well r None c w h = h
stepped_well r (Some n) c w h = step_well r (reply.Value n.0) c (Some n.1) c w h h

applied_well : (r : Request) (c : Contents) (w : Walk) → IsWell c → IsWell (applied r c w).contents
applied_well IterInit c w h = step_well IterInit reply.Done c (Some (all_keys c)) c w h h
applied_well IterNext c w h = stepped_well IterNext (next_in c w) c w h
applied_well (Repl timestamp server) c w h = h
applied_well (Put key value) c w h = took_well (Put key value) (effect (Put key value) c) c w (effect_well (Put key value) c h) h
applied_well (PutKeep key value) c w h = took_well (PutKeep key value) (effect (PutKeep key value) c) c w (effect_well (PutKeep key value) c h) h
applied_well (PutCat key value) c w h = took_well (PutCat key value) (effect (PutCat key value) c) c w (effect_well (PutCat key value) c h) h
applied_well (PutShl key value width) c w h = took_well (PutShl key value width) (effect (PutShl key value width) c) c w (effect_well (PutShl key value width) c h) h
applied_well (PutNr key value) c w h = took_well (PutNr key value) (effect (PutNr key value) c) c w (effect_well (PutNr key value) c h) h
applied_well (Out key) c w h = took_well (Out key) (effect (Out key) c) c w (effect_well (Out key) c h) h
applied_well (Get key) c w h = took_well (Get key) (effect (Get key) c) c w (effect_well (Get key) c h) h
applied_well (MGet keys) c w h = took_well (MGet keys) (effect (MGet keys) c) c w (effect_well (MGet keys) c h) h
applied_well (Vsiz key) c w h = took_well (Vsiz key) (effect (Vsiz key) c) c w (effect_well (Vsiz key) c h) h
applied_well (FwmKeys prefix maximum) c w h = took_well (FwmKeys prefix maximum) (effect (FwmKeys prefix maximum) c) c w (effect_well (FwmKeys prefix maximum) c h) h
applied_well (AddInt key number) c w h = took_well (AddInt key number) (effect (AddInt key number) c) c w (effect_well (AddInt key number) c h) h
applied_well Sync c w h = took_well Sync (effect Sync c) c w (effect_well Sync c h) h
applied_well (Optimize text) c w h = took_well (Optimize text) (effect (Optimize text) c) c w (effect_well (Optimize text) c h) h
applied_well Vanish c w h = took_well Vanish (effect Vanish c) c w (effect_well Vanish c h) h
applied_well Rnum c w h = took_well Rnum (effect Rnum c) c w (effect_well Rnum c h) h
applied_well Size c w h = took_well Size (effect Size c) c w (effect_well Size c h) h
applied_well Stat c w h = took_well Stat (effect Stat c) c w (effect_well Stat c h) h
applied_well (Misc name options args) c w h = took_well (Misc name options args) (effect (Misc name options args) c) c w (effect_well (Misc name options args) c h) h
applied_well (AddDouble key integer fraction) c w h = h
applied_well (Ext name options key value) c w h = h
applied_well (Copy path) c w h = took_well (Copy path) (effect (Copy path) c) c w (effect_well (Copy path) c h) h
applied_well (Restore path timestamp options) c w h = h
applied_well (SetMst host port timestamp options) c w h = h

pub apply_well : (replica : Bool) (r : Request) (c : Contents) (w : Walk) → IsWell c → IsWell (apply replica r c w).contents
unfolding apply
apply_well replica r c w h = go (replica && updates r)
  where
    go : (b : Bool) → IsWell (cond b (refused r c w) (applied r c w)).contents
    go true = h
    go false = applied_well r c w h

-- ---- from the empty data of a shape on

few_none : len (empty {X = IndexKind} {R = slice_cmp nat_cmp}) ≤ 16
few_none = let e = len-empty (slice_cmp nat_cmp) IndexKind in omega arith

pub no_data_well : (k : Kind) (decimal : Bool) (width most : ℕ) → IsWell (no_data k decimal width most)
no_data_well kind.Hash decimal width most = tt
no_data_well kind.MemHash decimal width most = tt
no_data_well kind.Tree decimal width most = tt
no_data_well kind.MemTree decimal width most = tt
no_data_well kind.Fixed decimal width most = none_held nat_cmp_total nat_cmp-IsAntisymmetric (λ id x. IsCell width most id x)
no_data_well kind.Table decimal width most = (none_held nat_list_cmp_total bytes_same (λ k x. IsRow x), few_none)

pub replayed_well : (rs : List Request) (c : Contents) → IsWell c → IsWell (replayed c rs)
unfolding replayed
replayed_well [] c h = h
replayed_well (r ∷ rs) c h = replayed_well rs (after c r) (apply_well false r c None h)
