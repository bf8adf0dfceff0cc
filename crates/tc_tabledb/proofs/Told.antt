-- What an inspection tells of a table.
use Rattle.std.proofs.Common.{◌≡◌, ◌∙◌, ℕ, Bool, true, false, cond, List, [], ◌∷◌, ◌++◌, length, Option, Some, refl, sym, ap, subst, ⊎_elim, append_assoc, arith}
use Rattle.std.specs.Prelude.{codes, flat_map, option_map, take, unwrap_or}
use Rattle.std.specs.Cmp.Lexicographic.{nat_list_cmp_total, slice_cmp, texts_ties}
use Rattle.std.specs.FinMap.{empty, entries, get, get-empty, get-insert, insert, same_map}
use Rattle.std.specs.Ordering.{nat_cmp}
use Rattle.std.proofs.lemmas.List.{append-nil}
use Rattle.std.proofs.lemmas.Map.Lookups.{exact_bytes}
use Rattle.tc_base.specs.Files.{Files}
use Rattle.tc_base.specs.Maps.{Map}
use Rattle.tc_base.specs.Texts.{is_text}
use Rattle.tc_base.specs.declared.order.Decimal.{Decimal}
use Rattle.tc_base.specs.declared.order.Lexical.{Lexical}
use Rattle.tc_space.specs.declared.multi.Multi as multi
use Rattle.tc_space.specs.declared.records.Records.{Ghosts as Stores}
use Rattle.tc_space.specs.declared.space.Space.{Ghosts}
use Rattle.hf_head.specs.declared.head.Head.{Head}
use Rattle.hf_head.specs.Heads.{head_in, is_large}
use Rattle.tc_hash.specs.Opening.{HasHead}
use Rattle.tc_hash.specs.declared.hash.Hash.{Hash}
use Rattle.tc_model.specs.Contents.{Contents, Indexes, fixed, hash, table, tree}
use Rattle.tc_hashdb.proofs.Several.{all_entries}
use Rattle.tc_maps.specs.Sizes.{entries_on}
use Rattle.tc_model.specs.declared.query.IndexKind.{IndexKind}
use Rattle.tc_table.specs.Sides.{name_of}
use Rattle.tc_table.specs.Valued.{got_valued}
use Rattle.tc_table.specs.declared.side.Side.{Side}
use Rattle.tc_treedb.proofs.Told.{then}
use Rattle.tc_treedb.specs.Trees.{IsStore}
use Rattle.tc_tabledb.specs.declared.holding.TableEngine.{TableEngine}
use Rattle.tc_tabledb.specs.Files.{AreFilesOf, Reopens}
use Rattle.tc_tabledb.specs.Holding.{DecimalList, HoldsEngine, LexicalList, indexes_of}
use Rattle.tc_tabledb.specs.Informing.{IsTold, form_line, head_lines, index_line, index_lines, kind_word, words_of}
use Rattle.tc_tabledb.proofs.Laid.{rows_some}
use Rattle.tc_tabledb.proofs.Limits.{name_here}
use Rattle.tc_tabledb.proofs.Places.{none_of}

pub all_added : (a b c d : List ℕ) (h : Head) (indexes : Indexes) (large : Bool) → large ≡ is_large h → b ≡ a ++ head_lines h → c ≡ b ++ index_lines indexes → d ≡ c ++ form_line large → d ≡ a ++ (head_lines h ++ (index_lines indexes ++ form_line (is_large h)))
all_added a b c d h indexes large is first second third = then a b d _ _ first (then b c d _ _ second (third ∙ ap (λ (t : Bool). c ++ form_line t) is))

pub line_added : (a b c d e f name word : List ℕ) → b ≡ a ++ codes "index " → c ≡ b ++ name → d ≡ c ++ codes ": " → e ≡ d ++ word → f ≡ e ++ 10 ∷ [] → f ≡ a ++ index_line name word
line_added a b c d e f name word first second third fourth fifth = then a b f _ _ first (then b c f _ _ second (then c d f _ _ third (then d e f _ _ fourth fifth)))

-- the indexes of contents
abbrev indexes_in : Contents → Indexes
indexes_in (table rows indexes) = indexes
indexes_in (hash a m) = empty
indexes_in (tree a d ps) = empty
indexes_in (fixed width most ids) = empty

module _ {S : Type 0} (s : Ghosts S) (r : Stores (Hash S) S) (l : multi.Ghosts (LexicalList S) S Lexical) (d : multi.Ghosts (DecimalList S) S Decimal) (store : IsStore s r) where
  -- what is held has a main file
  files_there : (e : TableEngine S) (files : Files) (c : Contents) → HoldsEngine r l d e files c → Reopens files c → AreFilesOf files c
  files_there e files c h reopens = ⊎_elim
      (λ none. absurd (let long = rows_some s r store e.table.rows (files 0) h.held.store (subst (λ (n : ℕ). r.holds e.table.rows (files n) h.held.store) h.main h.held.held) in let empty_file : length (files 0) ≡ 0 = ap length none.main in omega (arith, long, empty_file)))
      (λ files. files)
      reopens

  pub head_there : (e : TableEngine S) (files : Files) (c : Contents) → HoldsEngine r l d e files c → Reopens files c → (h : Head) × HasHead 3 (files 0) h
  head_there e files c h reopens = let is = (files_there e files c h reopens).main.file.is in (is.head, record { long = is.opens.long; valid = is.opens.valid; spells = is.opens.spells; kind_is = is.opens.kind_is })

  pub told_is : (e : TableEngine S) (files : Files) (c : Contents) (a b : List ℕ) (head : Head) (found : Option Head) (xs : List (Side (LexicalList S) (DecimalList S))) → xs ≡ e.table.sides.items → HoldsEngine r l d e files c → Reopens files c → found ≡ Some head → ((h : Head) × (found ≡ Some h) × (head_in (take 256 (files 0)) ≡ h))
      → b ≡ a ++ (head_lines head ++ (index_lines (indexes_of xs) ++ form_line (is_large head))) → (text : List ℕ) × IsTold files text × (b ≡ a ++ text)
  told_is e files c a b head found xs sides_are h reopens is other added =
      let stand = files_there e files c h reopens in
      let same : stand.indexes ≡ indexes_of xs = ap indexes_in (sym stand.is ∙ h.is) ∙ sym (ap indexes_of sides_are) in
      let head_is : head_in (take 256 (files 0)) ≡ head = other.2 ∙ ap (λ o. unwrap_or o head) (sym other.1 ∙ is) in (
        head_lines head ++ (index_lines (indexes_of xs) ++ form_line (is_large head)),
        record { contents = c; stand = stand; are = λ i. head_lines (sym head_is i) ++ (index_lines (sym same i) ++ form_line (is_large (sym head_is i))) },
        added,
      )

-- ---- the lines of the indexes

abbrev pub lines : List (List ℕ × List ℕ) → List ℕ
lines es = flat_map (λ e. index_line e.0 e.1) es

pub lines_more : (into new start : List ℕ) (all rest next : List (List ℕ × List ℕ)) (e : List ℕ × List ℕ) (name word : List ℕ) → into ++ lines rest ≡ start ++ lines all → rest ≡ e ∷ next → name ≡ e.0 → word ≡ e.1 → new ≡ into ++ index_line name word → new ++ lines next ≡ start ++ lines all
lines_more into new start all rest next e name word so is name_is word_is added =
    ap (λ (l : List ℕ). l ++ lines next) (added ∙ (λ i. into ++ index_line (name_is i) (word_is i)))
    ∙ (append_assoc into (index_line e.0 e.1) (lines next)
    ∙ (ap (λ (es : List (List ℕ × List ℕ)). into ++ lines es) (sym is) ∙ so))

pub lines_end : (into start : List ℕ) (all rest : List (List ℕ × List ℕ)) (m : Map) → into ++ lines rest ≡ start ++ lines all → rest ≡ [] → all ≡ entries_on [] m → into ≡ start ++ lines (entries m)
lines_end into start all rest m so none is =
    sym (append-nil into) ∙ (ap (λ (es : List (List ℕ × List ℕ)). into ++ lines es) (sym none) ∙ (so ∙ ap (λ (es : List (List ℕ × List ℕ)). start ++ lines es) (is ∙ all_entries m)))

-- the word of one more
word_at : (indexes : Indexes) (name : List ℕ) (kind : IndexKind) (k : List ℕ) → get (insert (words_of indexes) name (kind_word kind)) k ≡ get (words_of (insert indexes name kind)) k
word_at indexes name kind k =
    get-insert nat_list_cmp_total (words_of indexes) name (kind_word kind) k
    ∙ (ap (λ (t : Bool). cond t (Some (kind_word kind)) (get (words_of indexes) k)) (sym (texts_ties k name))
    ∙ (ap (cond (is_text k name) (Some (kind_word kind))) (got_valued kind_word indexes k)
    ∙ (mapped (is_text k name) (get indexes k)
    ∙ sym (got_valued kind_word (insert indexes name kind) k ∙ ap (option_map kind_word) (name_here indexes name kind k)))))
  where
    mapped : (t : Bool) (o : Option IndexKind) → cond t (Some (kind_word kind)) (option_map kind_word o) ≡ option_map kind_word (cond t (Some kind) o)
    mapped true o = refl
    mapped false o = refl

pub words_more : {L D : Type 0} (xs rest : List (Side L D)) (x : Side L D) (words new : Map) (name word : List ℕ) → xs ≡ x ∷ rest → words ≡ words_of (indexes_of rest) → name ≡ name_of x.tree → word ≡ kind_word x.kind → new ≡ insert words name word → new ≡ words_of (indexes_of xs)
words_more {L} {D} xs rest x words new name word parted is name_is word_is added =
    added ∙ ((λ i. insert (is i) (name_is i) (word_is i))
    ∙ (same_map nat_list_cmp_total exact_bytes (insert (words_of (indexes_of rest)) (name_of x.tree) (kind_word x.kind)) (words_of (insert (indexes_of rest) (name_of x.tree) x.kind)) (word_at (indexes_of rest) (name_of x.tree) x.kind)
    ∙ sym (ap (λ (ys : List (Side L D)). words_of (indexes_of ys)) parted)))

pub none_words : {L D : Type 0} (xs : List (Side L D)) (words : Map) → length xs ≡ 0 → words ≡ empty → words ≡ words_of (indexes_of xs)
none_words {L} {D} xs words none is =
    is ∙ (same_map nat_list_cmp_total exact_bytes (empty) (words_of empty) (λ k. get-empty (slice_cmp nat_cmp) k ∙ sym (got_valued kind_word empty k ∙ ap (option_map kind_word) (get-empty (slice_cmp nat_cmp) k)))
    ∙ sym (ap (λ (ys : List (Side L D)). words_of (indexes_of ys)) (none_of xs none)))
