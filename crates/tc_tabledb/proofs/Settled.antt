-- A table that is settled or packed, as the trait of databases says it.
use Rattle.std.proofs.Common.{◌≡◌, ◌∙◌, ◌⊎◌, inl, inr, ⊎_elim, ℕ, ◌≤◌, ◌∷◌, false, Option, sym, ap, subst, arith}
use Rattle.std.specs.Prelude.{IfSome, OnErr, OnOk, Result, Ok, Err}
use Rattle.tc_base.specs.Files.{Files}
use Rattle.tc_base.specs.declared.kind.Form.{Form}
use Rattle.tc_base.specs.declared.kind.Form.TheVariants.{Large}
use Rattle.tc_base.specs.declared.order.Decimal.{Decimal}
use Rattle.tc_base.specs.declared.order.Lexical.{Lexical}
use Rattle.tc_base.specs.declared.order.Order.{Ghosts as Orders}
use Rattle.tc_space.specs.Frames.{Others, Refuses}
use Rattle.tc_space.specs.Stores as frames
use Rattle.tc_space.specs.Stores.{in_form}
use Rattle.tc_space.specs.declared.multi.Multi as multi
use Rattle.tc_space.specs.declared.records.Records.{Ghosts as Stores}
use Rattle.tc_space.specs.declared.space.Space.{Ghosts}
use Rattle.tc_hash.specs.Keeping.{holds}
use Rattle.tc_hash.specs.Packing.{LacksLarge as HashLarge}
use Rattle.tc_hash.specs.declared.hash.Hash.{Hash}
use Rattle.tc_model.specs.Contents.{Contents, Rows, table}
use Rattle.tc_model.specs.Stores.{size_of}
use Rattle.tc_table.specs.Packing as packing
use Rattle.tc_table.specs.Packing.{IsTight, TablePacks}
use Rattle.tc_table.specs.Settling as settling
use Rattle.tc_table.specs.Sides.{AllStay, IsAway, OthersAll}
use Rattle.tc_table.specs.Tables.{Holds, StaysTable, files_of}
use Rattle.tc_table.specs.declared.table.Table.{Table}
use Rattle.tc_table.proofs.Overs.{law}
use Rattle.tc_table.proofs.Turning.{files_stay}
use Rattle.tc_treedb.proofs.Keeping.{large_up}
use Rattle.ty_base.specs.Holding as base
use Rattle.ty_base.specs.Holding.{FormsLayout, IsTrimmed}
use Rattle.tc_tabledb.specs.declared.holding.TableEngine.{TableEngine}
use Rattle.tc_tabledb.specs.Files.{IsIndexPlace, IsTableFile, Reopens, index_files}
use Rattle.tc_tabledb.specs.Filling.{LacksLarge}
use Rattle.tc_tabledb.specs.Holding.{AreDistinct, ArePackedFrom, DecimalList, HoldsEngine, HoldsTable, LeavesRest, LexicalList, indexes_of}
use Rattle.tc_tabledb.specs.Laying.{layout_of, slack_of}
use Rattle.tc_tabledb.specs.Members.{AreTableStores}
use Rattle.tc_tabledb.proofs.Laid.{formed_numbers, the_slack}
use Rattle.tc_tabledb.proofs.Lifting.{holds_again, numbered, others_up, rows_held, same_indexes, same_made, same_names}
use Rattle.tc_tabledb.proofs.Standing.{none_slack, packed_files, settled_files}

-- two things that are so after a refusal
pub both_refused : {T E A B C : Type 0} (result : Result T E) → OnErr result A → OnErr result B → (A → B → C) → OnErr result C
both_refused (Ok x) a b f = tt
both_refused (Err x) a b f = f a b

module _ {S : Type 0} (s : Ghosts S) (r : Stores (Hash S) S) (ol : Orders Lexical) (od : Orders Decimal) (l : multi.Ghosts (LexicalList S) S Lexical) (d : multi.Ghosts (DecimalList S) S Decimal) (stores : AreTableStores s r ol od l d) where
  abbrev Held : TableEngine S → S → Contents → Type 0
  Held e a c = base.Held s (HoldsEngine r l d) e a c

  -- the files of no index are empty still
  rest_still : (t : Table (Hash S) (LexicalList S) (DecimalList S)) (total : Option ℕ) (fs : Files) (c : Contents) (b : S) → HoldsTable r l d t total fs c → ((n : ℕ) → IsAway n (files_of r l d t) → s.now b n ≡ fs n) → LeavesRest r l d t.sides.items (s.now b)
  rest_still t total fs c b h others n at away = others n ((λ e. not_main n at (e ∙ h.main)), away) ∙ h.rest n at away
    where
      not_main : (n : ℕ) → IsIndexPlace n → n ≡ 0 → ⊥
      not_main n at e = let low = at.0 in absurd (omega (arith, low, e))

  -- it holds the same in files that may be others
  same_held : (e e' : TableEngine S) (a b : S) (c : Contents) → e'.total ≡ e.total → StaysTable r l d e.table e'.table → OthersAll s (files_of r l d e.table) a b → (h : Held e a c) → Holds s r l d e'.table b h.1.rows → Held e' b c
  same_held e e' a b c total stays others h holds = (
    h.0,
    subst (λ (x : Contents). HoldsEngine r l d e' (s.now b) x) (sym h.1.is)
        (holds_again s r l d e.table e'.table e.total e'.total (s.now a) c b h.1.rows h.1 stays holds (λ n away. others.same h.0 n away)
        (λ x is. subst (λ (y : Contents). IfSome e'.total (λ n. n ≡ size_of y)) (h.1.is ∙ sym is) (subst (λ (o : Option ℕ). IfSome o (λ n. n ≡ size_of c)) (sym total) h.1.counted))),
  )

  pub settle_sound : (e e' : TableEngine S) (a b : S) → settling.Settles s l d r e.table e'.table a b → s.sound b
  settle_sound e e' a b settles = settles.sound

  pub settle_others : (e e' : TableEngine S) (a b : S) → base.IsReady s (HoldsEngine r l d) e a → settling.Settles s l d r e.table e'.table a b → Others s IsTableFile a b
  settle_others e e' a b ready settles = others_up s r l d e a b ready settles.others

  module _ (e e' : TableEngine S) (a b : S) (total : e'.total ≡ e.total) where
    pub settled_up : StaysTable r l d e.table e'.table → settling.Settles s l d r e.table e'.table a b → (c : Contents) → Held e a c → Held e' b c × Reopens (s.now b) c
    settled_up stays settles c h =
        let holds = rows_held s r l d e a c h in (
          same_held e e' a b c total stays settles.others h (settles.means h.1.rows holds),
          inr (settled_files s r ol od l d stores e.table e.total (s.now a) c b h.1 (rest_still e.table e.total (s.now a) c b h.1 (λ n away. settles.others.same h.0 n away)) (settles.stand h.1.rows holds)),
        )

    pub settle_trims : StaysTable r l d e.table e'.table → settling.Settles s l d r e.table e'.table a b → (c : Contents) → Held e a c → IsTrimmed (layout_of (s.now a)) (layout_of (s.now b))
    settle_trims stays settles c h =
        let holds = rows_held s r l d e a c h in
        let after = same_held e e' a b c total stays settles.others h (settles.means h.1.rows holds) in
        record {
          numbers = numbered s r l d stores.store e e' a b c c stays h.1 after.1;
          none = the_slack (s.now b 0) (slack_of (s.now b) (0 ∷ index_files)) ∙ none_slack s r ol od l d stores e.table e.total (s.now a) c b h.1 (rest_still e.table e.total (s.now a) c b h.1 (λ n away. settles.others.same h.0 n away)) (settles.stand h.1.rows holds);
        }

    pub settle_packs : settling.Settles s l d r e.table e'.table a b → TablePacks s l d r e.table a b → (from : Files) (form : Form) (c : Contents) → IsTight s l d r e.table from form (s.now a) → Held e a c → ArePackedFrom from form (s.now b)
    settle_packs settles packs from form c tight h =
        packed_files s r ol od l d stores e.table from form (s.now b) h.1.main (rest_still e.table e.total (s.now a) c b h.1 (λ n away. settles.others.same h.0 n away)) (packs from form h.1.rows tight (rows_held s r l d e a c h))

    -- ---- a table that was packed

    pub pack_tight : (form : Form) → packing.Packs s l d r form e.table e'.table a b → (c : Contents) → Held e a c → IsTight s l d r e'.table (s.now a) form (s.now b)
    pack_tight form packs c h = packs.tight h.1.rows (rows_held s r l d e a c h)

  pub pack_sound : (form : Form) (e e' : TableEngine S) (a b : S) → packing.Packs s l d r form e.table e'.table a b → s.sound b
  pack_sound form e e' a b packs = packs.sound

  pub pack_others : (form : Form) (e e' : TableEngine S) (a b : S) → base.IsReady s (HoldsEngine r l d) e a → packing.Packs s l d r form e.table e'.table a b → Others s IsTableFile a b
  pack_others form e e' a b ready packs = others_up s r l d e a b ready packs.others

  -- the large form has no room for the records of rows
  pub pack_full : (form : Form) (e : TableEngine S) (a b : S) → frames.FullPack s r.lacks_large form e.table.rows a b → (c : Contents) → Held e a c → s.log_full b ⊎ ((form ≡ Large) × LacksLarge s a b c)
  pack_full form e a b full c h = ⊎_elim
      (λ log. inl log)
      (λ large. inr (large.0, subst (LacksLarge s a b) (sym h.1.is) (at_rows (stores.store.large e.table.rows a b large.1))))
      (full h.0)
    where
      file : e.table.rows.body.file ≡ 0
      file = sym (stores.store.file e.table.rows) ∙ h.1.main

      records : holds e.table.rows (s.now a 0) h.1.held.store
      records = subst (λ (f : ℕ). holds e.table.rows (s.now a f) h.1.held.store) h.1.main (stores.store.into e.table.rows (s.now a (r.file_of e.table.rows)) h.1.held.store h.1.held.held)

      at_rows : HashLarge s e.table.rows a b → LacksLarge s a b (table h.1.rows (indexes_of e.table.sides.items))
      at_rows lacks = record { held = h.1.held.store; spelled = h.1.held.spelled; lacks = large_up s e.table.rows a b h.1.held.store h.0 file records lacks }

  -- it holds the same where main file and indexes stay, but for the form of the main file
  as_was : (e e' : TableEngine S) (a b : S) → e'.total ≡ e.total → r.file_of e'.table.rows ≡ r.file_of e.table.rows → r.sort e'.table.rows ≡ r.sort e.table.rows → AllStay l d e.table.sides.items e'.table.sides.items → ((rows : Rows) → Holds s r l d e.table a rows → Holds s r l d e'.table b rows)
      → (s.tells → (n : ℕ) → IsAway n (files_of r l d e.table) → s.now b n ≡ s.now a n) → (c : Contents) → Held e a c → Held e' b c
  as_was e e' a b total file sort stays means others c h =
      let holds = means h.1.rows (rows_held s r l d e a c h) in (
        h.0,
        record {
          rows = h.1.rows;
          is = h.1.is ∙ ap (table h.1.rows) (sym (same_indexes s l d e.table.sides.items e'.table.sides.items stays));
          held = ((law s r l d e'.table b h.1.rows).0 holds).1;
          main = file ∙ h.1.main;
          sort = sort ∙ h.1.sort;
          made = same_made s l d r e.table.sides.items e'.table.sides.items stays h.1.made;
          distinct = subst AreDistinct (sym (same_names s l d e.table.sides.items e'.table.sides.items stays)) h.1.distinct;
          rest = λ n at away. rest_still e.table e.total (s.now a) c b h.1 (others h.0) n at (subst (IsAway n) (files_stay s l d e.table.sides.items e'.table.sides.items stays) away);
          counted = subst (λ (o : Option ℕ). IfSome o (λ n. n ≡ size_of c)) (sym total) h.1.counted;
        },
      )

  pub pack_up : (form : Form) (e e' : TableEngine S) (a b : S) → e'.total ≡ e.total → r.file_of e'.table.rows ≡ r.file_of e.table.rows → r.sort e'.table.rows ≡ r.sort e.table.rows → AllStay l d e.table.sides.items e'.table.sides.items → packing.Packs s l d r form e.table e'.table a b → (c : Contents) → Held e a c → Held e' b c
  pack_up form e e' a b total file sort stays packs c h = as_was e e' a b total file sort stays packs.means (λ tells n away. packs.others.same tells n away) c h

  pub pack_refused : (e e' : TableEngine S) (a b : S) → e'.total ≡ e.total → r.file_of e'.table.rows ≡ r.file_of e.table.rows → r.sort e'.table.rows ≡ r.sort e.table.rows → (s.flag b ≡ false) ⊎ AllStay l d e.table.sides.items e'.table.sides.items → Refuses s (Holds s r l d) e.table e'.table a b → Refuses s (base.Held s (HoldsEngine r l d)) e e' a b
  pack_refused e e' a b total file sort left refused = ⊎_elim
      (λ spoiled. inl spoiled)
      (λ reads. ⊎_elim
      (λ spoiled. inl spoiled)
      (λ stays. inr (record { now = reads.now; touched = reads.touched; sound = reads.sound; means = λ c h. as_was e e' a b total file sort stays reads.means (λ tells n away. reads.now tells n) c h }))
      left)
      refused

  -- ---- numbers of a table that was packed

  formed_by : (form : Form) (e e' : TableEngine S) (a b : S) → ((c : Contents) → Held e a c → Held e' b c) → r.numbers e'.table.rows ≡ in_form form (r.numbers e.table.rows) → r.lead e'.table.rows ≤ r.lead e.table.rows → (c : Contents) → Held e a c → FormsLayout form (layout_of (s.now a)) (layout_of (s.now b))
  formed_by form e e' a b remains numbers lead c h =
      let now = remains c h in
      formed_numbers s r stores.store form e.table.rows e'.table.rows (s.now a 0) (s.now b 0) h.1.held.store now.1.held.store _ _
      (subst (λ (f : ℕ). r.holds e.table.rows (s.now a f) h.1.held.store) h.1.main h.1.held.held)
      (subst (λ (f : ℕ). r.holds e'.table.rows (s.now b f) now.1.held.store) now.1.main now.1.held.held)
      numbers lead

  pub pack_formed : {T E : Type 0} (result : Result T E) (form : Form) (e e' : TableEngine S) (a b : S) → e'.total ≡ e.total → r.file_of e'.table.rows ≡ r.file_of e.table.rows → r.sort e'.table.rows ≡ r.sort e.table.rows → OnOk result (packing.Packs s l d r form e.table e'.table a b) → OnOk result (AllStay l d e.table.sides.items e'.table.sides.items)
      → OnOk result (r.numbers e'.table.rows ≡ in_form form (r.numbers e.table.rows)) → OnOk result (r.lead e'.table.rows ≤ r.lead e.table.rows) → OnOk result ((c : Contents) → Held e a c → FormsLayout form (layout_of (s.now a)) (layout_of (s.now b)))
  pack_formed (Ok x) form e e' a b total file sort packs stays numbers lead = formed_by form e e' a b (λ c h. pack_up form e e' a b total file sort stays packs c h) numbers lead
  pack_formed (Err x) form e e' a b total file sort packs stays numbers lead = tt
