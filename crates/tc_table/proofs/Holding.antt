-- A table after a row is read, set or taken out.
use Rattle.std.proofs.Common.{◌≡◌, ◌∙◌, ℕ, Bool, true, false, cond, List, ◌∷◌, Option, Some, None, refl, sym, ap, subst, ◌⊎◌, inl, inr, ⊎_elim}
use Rattle.std.specs.Prelude.{is_some, option_map}
use Rattle.std.specs.FinMap.{get, insert, keys, len, remove}
use Rattle.tc_base.specs.Maps.{Map}
use Rattle.tc_base.specs.declared.kind.Mode.{Mode}
use Rattle.tc_base.specs.declared.kind.Mode.TheVariants.{Over}
use Rattle.tc_space.specs.Changes.{is_in, out_of, put_in}
use Rattle.tc_space.specs.Frames.{In, Keeps, Reads, Refuses, refuses_then}
use Rattle.tc_space.specs.Stores.{FullPutIn, IsReady, Only, StaysMap, TakesOut, WritesIn}
use Rattle.tc_space.specs.declared.space.Space.{Ghosts}
use Rattle.tc_space.specs.declared.records.Records as records
use Rattle.tc_space.specs.declared.multi.Multi as multi
use Rattle.std.specs.declared.cmp.Ordering.{Ordering}
use Rattle.tc_model.specs.Contents.{Rows}
use Rattle.tc_model.specs.Maps.{without}
use Rattle.tc_model.specs.Rows.{Row}
use Rattle.tc_model.specs.Stores.{put_row}
use Rattle.tc_model.specs.Well.{IsRow}
use Rattle.td_index.specs.Checks.{StaysRows}
use Rattle.td_index.proofs.Keeping.{rows_stay, rows_then}
use Rattle.td_row.specs.Spelling.{SpellsRow, row_bytes}
use Rattle.tc_table.specs.Full.{FullSince}
use Rattle.tc_table.specs.Parts.{AreSpelled, IsNext}
use Rattle.tc_table.specs.Sides.{AllReady, AllStand, AllStay, AllTurn, AreApart, IsAway, files}
use Rattle.tc_table.specs.Tables.{FullDrop, FullIndex, FullOut, FullPut, FullSet, Holds, Makes, Sets, StaysTable, row_put}
use Rattle.tc_table.specs.declared.table.Table.{Table}
use Rattle.tc_table.proofs.Spelled.{keys_same, len_same, next_out, next_set, put_is, row_none, row_some, rows_out, rows_set, spelled_out, spelled_set}
use Rattle.tc_table.proofs.Turning.{all_same, all_stay, all_still, files_stay, sides_then}

module _ {S R L OL D OD : Type 0} (s : Ghosts S) (r : records.Ghosts R S) (l : multi.Ghosts L S OL) (d : multi.Ghosts D S OD) where
  pub rows_ready : (t : Table R L D) (a : S) → IsReady s (Holds s r l d) t a → IsReady s (In s r.file_of r.holds) t.rows a
  rows_ready t a ready = record { sound = ready.sound; held = λ tells. let h = ready.held tells in (h.1.store, h.1.held) }

  -- ---- what stays

  pub map_stays : (v w : R) → StaysMap r.file_of r.sort r.numbers r.region r.lead r.gets v w → StaysRows r v w
  map_stays v w stays = record { file = stays.file; sort = stays.sort_same; numbers = stays.numbers_same; region = stays.region_same; lead = stays.leads }

  -- where its indexes are the same
  pub still_stays : (t t' : Table R L D) → t'.sides ≡ t.sides → StaysRows r t.rows t'.rows → StaysTable r l d t t'
  still_stays t t' sides rows = record { rows = rows; sides = subst (λ v. AllStay l d t.sides.items v.items) (sym sides) (all_stay s l d t.sides.items) }

  pub row_stays : (t t' : Table R L D) (v : R) → t'.rows ≡ v → StaysRows r t.rows v → AllStay l d t.sides.items t'.sides.items → StaysTable r l d t t'
  row_stays t t' v is stays sides = record { rows = subst (λ (w : R). StaysRows r t.rows w) (sym is) stays; sides = sides }

  pub table_stays : (t : Table R L D) → StaysTable r l d t t
  table_stays t = record { rows = rows_stay r t.rows; sides = all_stay s l d t.sides.items }

  pub stays_then : (t u v : Table R L D) → StaysTable r l d t u → StaysTable r l d u v → StaysTable r l d t v
  stays_then t u v first second = record { rows = rows_then r t.rows u.rows v.rows first.rows second.rows; sides = sides_then s l d t.sides.items u.sides.items v.sides.items first.sides second.sides }

  pub sides_ready : (t : Table R L D) (a : S) → IsReady s (Holds s r l d) t a → AllReady s l d t.sides.items a
  sides_ready t a ready = record { sound = ready.sound; apart = λ tells. (ready.held tells).1.apart.1; held = λ tells. let h = ready.held tells in (h.0, h.1.indexes) }

  -- ---- reading

  pub sides_read : (t t' : Table R L D) (a b : S) → t'.rows ≡ t.rows → AllStay l d t.sides.items t'.sides.items → Reads s (AllStand s l d) t.sides.items t'.sides.items a b → Reads s (Holds s r l d) t t' a b
  sides_read t t' a b rows stay reads = record {
    now = reads.now;
    touched = reads.touched;
    sound = reads.sound;
    means = λ m h. record {
      store = h.store;
      held = subst (λ (v : R). In s r.file_of r.holds v b h.store) (sym rows) (h.held.0, subst (λ (bytes : List ℕ). r.holds t.rows bytes h.store) (sym (reads.now h.held.0 (r.file_of t.rows))) h.held.1);
      spelled = h.spelled;
      are = h.are;
      apart = subst (λ (fs : List ℕ). AreApart fs) (sym (ap (λ (v : R). r.file_of v ∷ files l d t'.sides.items) rows ∙ ap (λ (fs : List ℕ). r.file_of t.rows ∷ fs) (files_stay s l d t.sides.items t'.sides.items stay))) h.apart;
      indexes = reads.means m h.indexes;
    };
  }

  pub table_reads : (t t' : Table R L D) (a b : S) → t'.sides ≡ t.sides → r.file_of t'.rows ≡ r.file_of t.rows → Reads s (In s r.file_of r.holds) t.rows t'.rows a b → Reads s (Holds s r l d) t t' a b
  table_reads t t' a b sides file h = record {
    now = h.now;
    touched = h.touched;
    sound = h.sound;
    means = λ rows old. record {
      store = old.store;
      held = h.means old.store old.held;
      spelled = old.spelled;
      are = old.are;
      apart = subst (λ (fs : List ℕ). AreApart fs) (sym (ap (λ (f : ℕ). f ∷ files l d t'.sides.items) file ∙ ap (λ v. r.file_of t.rows ∷ files l d v.items) sides)) old.apart;
      indexes = subst (λ v. AllStand s l d v.items b rows) (sym sides) (all_same s l d t.sides.items a b rows h.now old.indexes);
    };
  }

  pub table_refuses : (t t' : Table R L D) (a b : S) → t'.sides ≡ t.sides → r.file_of t'.rows ≡ r.file_of t.rows → Refuses s (In s r.file_of r.holds) t.rows t'.rows a b → Refuses s (Holds s r l d) t t' a b
  table_refuses t t' a b sides file h = ⊎_elim (λ bad. inl bad) (λ still. inr (table_reads t t' a b sides file still)) h

  pub got_none : (t : Table R L D) (a : S) (key : List ℕ) → ((m : Map) → In s r.file_of r.holds t.rows a m → None ≡ get m key) → (rows : Rows) → Holds s r l d t a rows → None ≡ get rows key
  got_none t a key none rows h = row_none h.store rows h.spelled h.are key (none h.store h.held)

  pub got_some : (t : Table R L D) (a : S) (key bytes text : List ℕ) (row : Row) → text ≡ bytes → ((m : Map) → In s r.file_of r.holds t.rows a m → Some bytes ≡ get m key) → ((q : Row) → SpellsRow text q → q ≡ row) → (rows : Rows) → Holds s r l d t a rows → Some row ≡ get rows key
  got_some t a key bytes text row is some only rows h = row_some h.store rows h.spelled h.are key bytes row (some h.store h.held) (λ q spells. only q (subst (λ (x : List ℕ). SpellsRow x q) (sym is) spells))

  pub got_keys : (t : Table R L D) (a : S) (ks : List (List ℕ)) → ((m : Map) → In s r.file_of r.holds t.rows a m → ks ≡ keys m) → (rows : Rows) → Holds s r l d t a rows → ks ≡ keys rows
  got_keys t a ks is rows h = is h.store h.held ∙ keys_same h.store rows h.spelled

  pub got_count : (t : Table R L D) (a : S) (n : ℕ) → ((bytes : List ℕ) (m : Map) → r.holds t.rows bytes m → n ≡ len m) → (rows : Rows) → Holds s r l d t a rows → n ≡ len rows
  got_count t a n is rows h = is (s.now a (r.file_of t.rows)) h.store h.held.1 ∙ len_same h.store rows h.spelled

  -- ---- a row set, or taken out

  pub index_ready : (t : Table R L D) (v : R) (a b : S) (f : Map → Map) → WritesIn s r.file_of r.holds f t.rows v a b → IsReady s (Holds s r l d) t a → AllReady s l d t.sides.items b
  index_ready t v a b f w ready = record {
    sound = w.sound;
    apart = λ tells. (ready.held tells).1.apart.1;
    held = λ tells. let h = ready.held tells in (h.0, all_still s l d (r.file_of t.rows) t.sides.items a b h.0 h.1.apart.0 w.others h.1.indexes);
  }

  changed : (t t' : Table R L D) (v : R) (a b c : S) (key : List ℕ) (old new : Option Row) (f : Map → Map) (g : Rows → Rows)
      → ((m : Map) (rows : Rows) → AreSpelled m rows → AreSpelled (f m) (g rows)) → ((rows : Rows) → Holds s r l d t a rows → (k : List ℕ) (row : Row) → get (g rows) k ≡ Some row → IsRow row) → ((rows : Rows) → IsNext key new rows (g rows))
      → t'.rows ≡ v → WritesIn s r.file_of r.holds f t.rows v a b → r.file_of v ≡ r.file_of t.rows
      → AllStay l d t.sides.items t'.sides.items → AllTurn s l d key old new t.sides.items t'.sides.items b c
      → Sets s r l d key old g t t' a c
  changed t t' v a b c key old new f g spelled are next is w file stay turn = record {
    sound = turn.sound;
    means = λ rows h had.
        let held = w.means h.store h.held in
        record {
          store = f h.store;
          held = subst (λ (x : R). In s r.file_of r.holds x c (f h.store)) (sym is)
              (held.0, subst (λ (bytes : List ℕ). r.holds v bytes (f h.store)) (sym (turn.others.same held.0 (r.file_of v) (subst (λ (n : ℕ). IsAway n (files l d t.sides.items)) (sym file) h.apart.0))) held.1);
          spelled = spelled h.store rows h.spelled;
          are = are rows h;
          apart = subst (λ (fs : List ℕ). AreApart fs) (sym (ap (λ (n : ℕ). n ∷ files l d t'.sides.items) (ap r.file_of is ∙ file) ∙ ap (λ (fs : List ℕ). r.file_of t.rows ∷ fs) (files_stay s l d t.sides.items t'.sides.items stay))) h.apart;
          indexes = turn.means rows (g rows) h.apart.1 (all_still s l d (r.file_of t.rows) t.sides.items a b rows h.apart.0 w.others h.indexes) had (next rows);
        };
    others = record { same = λ tells n away. turn.others.same tells n away.1 ∙ w.others.same tells n (λ e. away.0 e) };
  }

  pub set_done : (t t' : Table R L D) (v : R) (a b c : S) (key bytes text : List ℕ) (old : Option Row) (new : Row) → bytes ≡ row_bytes new → text ≡ bytes → IsRow new → t'.rows ≡ v
      → WritesIn s r.file_of r.holds (put_in Over key text) t.rows v a b → r.file_of v ≡ r.file_of t.rows
      → AllStay l d t.sides.items t'.sides.items → AllTurn s l d key old (Some new) t.sides.items t'.sides.items b c
      → Sets s r l d key old (λ rows. insert rows key new) t t' a c
  set_done t t' v a b c key bytes text old new is spelled row rows w file stay turn =
      changed t t' v a b c key old (Some new) (put_in Over key (row_bytes new)) (λ x. insert x key new) (λ m x e. spelled_set m x key new e) (λ x h. rows_set x key new h.are row) (λ x. next_set x key new) rows
      (subst (λ (x : List ℕ). WritesIn s r.file_of r.holds (put_in Over key x) t.rows v a b) (spelled ∙ is) w) file stay turn

  pub out_done : (t t' : Table R L D) (v : R) (a b c : S) (key : List ℕ) (old : Row) → t'.rows ≡ v
      → TakesOut s (Only (r.file_of t.rows)) (In s r.file_of r.holds) (is_in key) (out_of key) true t.rows v a b → r.file_of v ≡ r.file_of t.rows
      → AllStay l d t.sides.items t'.sides.items → AllTurn s l d key (Some old) None t.sides.items t'.sides.items b c
      → Sets s r l d key (Some old) (λ rows. remove rows key) t t' a c
  out_done t t' v a b c key old rows takes file stay turn =
      changed t t' v a b c key (Some old) None (out_of key) (λ x. remove x key) (λ m x e. spelled_out m x key e) (λ x h. rows_out x key h.are) (λ x. next_out x key) rows (takes.out refl) file stay turn

  pub out_ready : (t : Table R L D) (v : R) (a b : S) (key : List ℕ) → TakesOut s (Only (r.file_of t.rows)) (In s r.file_of r.holds) (is_in key) (out_of key) true t.rows v a b → IsReady s (Holds s r l d) t a → AllReady s l d t.sides.items b
  out_ready t v a b key takes ready = index_ready t v a b (out_of key) (takes.out refl) ready

  -- ---- calls that answer whether they did

  pub nothing_made : (t t' : Table R L D) (a b : S) (f : Rows → Option Rows) → Reads s (Holds s r l d) t t' a b → ((rows : Rows) → Holds s r l d t a rows → f rows ≡ None) → Makes s r l d f false t t' a b
  nothing_made t t' a b f reads none = record {
    sound = reads.sound;
    others = record { same = λ tells n away. reads.now tells n };
    made = λ e. absurd (let g : false ≡ true = e in cc);
    fails = λ e rows h. none rows h;
    same = λ e. reads;
  }

  without_none : (o : Option Row) (rows : Rows) (key : List ℕ) → None ≡ o → cond (is_some o) (Some (remove rows key)) None ≡ None
  without_none None rows key e = refl
  without_none (Some row) rows key e = absurd (let f : None ≡ Some row = e in cc)

  pub none_out : (t t' : Table R L D) (a b : S) (key : List ℕ) → Reads s (Holds s r l d) t t' a b → ((rows : Rows) → Holds s r l d t a rows → None ≡ get rows key) → Makes s r l d (λ rows. without rows key) false t t' a b
  none_out t t' a b key reads none = nothing_made t t' a b (λ rows. without rows key) reads (λ rows h. without_none (get rows key) rows key (none rows h))

  pub made_so : (t u v : Table R L D) (a b c : S) (key : List ℕ) (old : Option Row) (f : Rows → Option Rows) (g : Rows → Rows) → StaysTable r l d t u → Reads s (Holds s r l d) t u a b → Sets s r l d key old g u v b c → ((rows : Rows) → Holds s r l d t a rows → old ≡ get rows key)
      → ((rows : Rows) → Holds s r l d t a rows → f rows ≡ Some (g rows)) → Makes s r l d f true t v a c
  made_so t u v a b c key old f g stays reads sets had is = record {
    sound = sets.sound;
    others = record { same = λ tells n away. sets.others.same tells n (subst (λ (fs : List ℕ). IsAway n fs) (sym (ap (λ (x : ℕ). x ∷ files l d u.sides.items) stays.rows.file ∙ ap (λ (fs : List ℕ). r.file_of t.rows ∷ fs) (files_stay s l d t.sides.items u.sides.items stays.sides))) away) ∙ reads.now tells n };
    made = λ e rows h. (g rows, is rows h, sets.means rows (reads.means rows h) (sym (had rows h)));
    fails = λ e. absurd (let x : true ≡ false = e in cc);
    same = λ e. absurd (let x : true ≡ false = e in cc);
  }

  without_some : (o : Option Row) (rows : Rows) (key : List ℕ) (row : Row) → Some row ≡ o → cond (is_some o) (Some (remove rows key)) None ≡ Some (remove rows key)
  without_some None rows key row e = absurd (let f : Some row ≡ None = e in cc)
  without_some (Some q) rows key row e = refl

  pub out_made : (t u v : Table R L D) (a b c : S) (key : List ℕ) (old : Row) → StaysTable r l d t u → Reads s (Holds s r l d) t u a b → Sets s r l d key (Some old) (λ rows. remove rows key) u v b c → ((rows : Rows) → Holds s r l d t a rows → Some old ≡ get rows key) → Makes s r l d (λ rows. without rows key) true t v a c
  out_made t u v a b c key old stays reads sets some = made_so t u v a b c key (Some old) (λ rows. without rows key) (λ rows. remove rows key) stays reads sets some (λ rows h. without_some (get rows key) rows key old (some rows h))

  pub not_put : (t t' : Table R L D) (a b : S) (mode : Mode) (key : List ℕ) (row : Row) (old made : Option Row) → Reads s (Holds s r l d) t t' a b → ((rows : Rows) → Holds s r l d t a rows → old ≡ get rows key) → made ≡ row_put mode old row → made ≡ None → Makes s r l d (λ rows. put_row mode rows key row) false t t' a b
  not_put t t' a b mode key row old made reads had is none = nothing_made t t' a b (λ rows. put_row mode rows key row) reads (λ rows h. put_is mode rows key row old made (had rows h) is ∙ ap (option_map (λ r. insert rows key r)) none)

  pub put_made : (t u v : Table R L D) (a b c : S) (mode : Mode) (key : List ℕ) (row new : Row) (old made : Option Row) → StaysTable r l d t u → Reads s (Holds s r l d) t u a b → Sets s r l d key old (λ rows. insert rows key new) u v b c → ((rows : Rows) → Holds s r l d t a rows → old ≡ get rows key) → made ≡ row_put mode old row → made ≡ Some new
      → Makes s r l d (λ rows. put_row mode rows key row) true t v a c
  put_made t u v a b c mode key row new old made stays reads sets had is some = made_so t u v a b c key old (λ rows. put_row mode rows key row) (λ rows. insert rows key new) stays reads sets had (λ rows h. put_is mode rows key row old made (had rows h) is ∙ ap (option_map (λ r. insert rows key r)) some)

  -- ---- what an out answered

  pub was_taken : (t : Table R L D) (v : R) (a b : S) (key : List ℕ) (taken : Bool) → TakesOut s (Only (r.file_of t.rows)) (In s r.file_of r.holds) (is_in key) (out_of key) taken t.rows v a b → taken ≡ true → TakesOut s (Only (r.file_of t.rows)) (In s r.file_of r.holds) (is_in key) (out_of key) true t.rows v a b
  was_taken t v a b key taken takes is = subst (λ (x : Bool). TakesOut s (Only (r.file_of t.rows)) (In s r.file_of r.holds) (is_in key) (out_of key) x t.rows v a b) is takes

  pub none_taken : (t t' : Table R L D) (v : R) (a b : S) (key : List ℕ) (taken : Bool) → t'.sides ≡ t.sides → t'.rows ≡ v → r.file_of v ≡ r.file_of t.rows → TakesOut s (Only (r.file_of t.rows)) (In s r.file_of r.holds) (is_in key) (out_of key) taken t.rows v a b → taken ≡ false → Refuses s (Holds s r l d) t t' a b
  none_taken t t' v a b key taken sides is file takes none = inr (table_reads t t' a b sides (ap r.file_of is ∙ file) (subst (λ (x : R). Reads s (In s r.file_of r.holds) t.rows x a b) (sym is) (takes.none none)))

  -- ---- where a limit was reached

  module _ (lc dc : List ℕ → List ℕ → Ordering) where
    pub index_full : (t : Table R L D) (v : R) (a b c : S) (key : List ℕ) (old new : Option Row) (f : Map → Map) → WritesIn s r.file_of r.holds f t.rows v a b → Keeps s a b → FullSince s l d lc dc key old new t.sides.items b c → FullIndex s r l d lc dc key old new f t a c
    index_full t v a b c key old new f w keeps full = record { rows = v; moment = b; wrote = w; since = keeps; full = full }

    pub set_full : (t : Table R L D) (v : R) (a b c : S) (key bytes text : List ℕ) (old : Option Row) (new : Row) → bytes ≡ row_bytes new → text ≡ bytes → WritesIn s r.file_of r.holds (put_in Over key text) t.rows v a b → Keeps s a b → FullSince s l d lc dc key old (Some new) t.sides.items b c → FullSet s r l d lc dc key old new t a c
    set_full t v a b c key bytes text old new is spelled w keeps full =
        inr (index_full t v a b c key old (Some new) (put_in Over key (row_bytes new)) (subst (λ (x : List ℕ). WritesIn s r.file_of r.holds (put_in Over key x) t.rows v a b) (spelled ∙ is) w) keeps full)

    pub record_full : (t : Table R L D) (a b : S) (key bytes text : List ℕ) (old : Option Row) (new : Row) → bytes ≡ row_bytes new → text ≡ bytes → FullPutIn s r.file_of r.holds r.lacks Over key text t.rows a b → FullSet s r l d lc dc key old new t a b
    record_full t a b key bytes text old new is spelled full = inl (subst (λ (x : List ℕ). FullPutIn s r.file_of r.holds r.lacks Over key x t.rows a b) (spelled ∙ is) full)

    pub drop_full : (t : Table R L D) (v : R) (a b c : S) (key : List ℕ) (old : Option Row) → TakesOut s (Only (r.file_of t.rows)) (In s r.file_of r.holds) (is_in key) (out_of key) true t.rows v a b → Keeps s a b → FullSince s l d lc dc key old None t.sides.items b c → FullDrop s r l d lc dc key old t a c
    drop_full t v a b c key old takes keeps full = inr (index_full t v a b c key old None (out_of key) (takes.out refl) keeps full)

    pub out_full : (t u : Table R L D) (a b c : S) (key : List ℕ) (old : Row) → Reads s (Holds s r l d) t u a b → StaysTable r l d t u → Keeps s a b → ((rows : Rows) → Holds s r l d t a rows → Some old ≡ get rows key) → FullDrop s r l d lc dc key (Some old) u b c → FullOut s r l d lc dc key t a c
    out_full t u a b c key old reads stays keeps had full = record { old = old; table = u; moment = b; reads = reads; stays = stays; since = keeps; had = λ rows h. sym (had rows h); full = full }

    pub put_full : (t u : Table R L D) (a b c : S) (mode : Mode) (key : List ℕ) (row new : Row) (old made : Option Row) → Reads s (Holds s r l d) t u a b → StaysTable r l d t u → Keeps s a b → ((rows : Rows) → Holds s r l d t a rows → old ≡ get rows key) → made ≡ row_put mode old row → made ≡ Some new
        → FullSet s r l d lc dc key old new u b c → FullPut s r l d lc dc mode key row t a c
    put_full t u a b c mode key row new old made reads stays keeps had is some full = record {
      old = old;
      new = new;
      table = u;
      moment = b;
      reads = reads;
      stays = stays;
      since = keeps;
      had = λ rows h. sym (had rows h);
      gives = λ rows h. put_is mode rows key row old made (had rows h) is ∙ ap (option_map (λ r. insert rows key r)) some;
      full = full;
    }

  -- ---- refusals

  pub refused_then : (t u v : Table R L D) (a b c : S) → Reads s (Holds s r l d) t u a b → Refuses s (Holds s r l d) u v b c → Refuses s (Holds s r l d) t v a c
  refused_then t u v a b c first second = refuses_then s (Holds s r l d) t u v a b c first second
