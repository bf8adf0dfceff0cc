-- Nodes with an entry more, and nodes of some of a node's entries.
use Rattle.std.proofs.Common.{◌≡◌, ℕ, ◌+◌, ◌-◌, ◌<◌, ◌≤◌, ◌^◌, List, [], ◌∷◌, ◌++◌, length, map, take, drop, sym, ap, subst, ◌∙◌, arith}
use Rattle.std.specs.List.{All, flat_map}
use Rattle.std.proofs.lemmas.List.{append-nil, drop_all}
use Rattle.std.proofs.lemmas.List.Elements.{All-from_recursion, recursion_from_All, All-append, All-take, All-drop}
use Rattle.tc_base.specs.Vnum.{vnum}
use Rattle.bt_page.specs.declared.page.NodeEntry.{NodeEntry}
use Rattle.bt_page.specs.declared.page.Node.{Node}
use Rattle.bt_page.specs.Pages.{two, entry_bytes, node_bytes, SizeFits, EntryFits, NodeFits}
use Rattle.bt_slots.specs.Changes.{shifted, MayShift, spliced}
use Rattle.bt_slots.specs.Slots.{IsNodeIn, entries_before, starts_from}
use Rattle.bt_slots.proofs.Rows.{row_bytes, row_long, those_from, with_those, those_spliced, those_end, those_within, those_may, those_starts, run_ends, run_is, run_bytes, run_may, run_starts}

pub node_row : (n : Node) (bytes : List ℕ) → bytes ≡ node_bytes n → bytes ≡ row_bytes entry_bytes (vnum n.heir) n.entries
unfolding node_bytes
node_row n bytes is = is

abbrev pub entry_of : ℕ → List ℕ → NodeEntry
entry_of child key = record { child = child; key = key }

pub entries_end : (n : Node) (bytes : List ℕ) (i : ℕ) → bytes ≡ node_bytes n → i ≡ length n.entries → length bytes ≡ entries_before n i
unfolding node_bytes
entries_end n bytes i is e =
    let all : flat_map entry_bytes (drop i n.entries) ≡ [] = ap (flat_map entry_bytes) (drop_all i n.entries (omega (arith, e))) in
    omega (arith, ap length is, row_long entry_bytes (vnum n.heir) n.entries i, ap length all)

pub entries_within : (n : Node) (bytes : List ℕ) (i : ℕ) → bytes ≡ node_bytes n → entries_before n i ≤ length bytes
entries_within n bytes i is = omega (arith, ap length (node_row n bytes is), row_long entry_bytes (vnum n.heir) n.entries i)

all_fit : (n : Node) → NodeFits n → All EntryFits n.entries
all_fit n h = All-from_recursion EntryFits n.entries h.entries

-- ---- an entry more

module _ (n : Node) (i child : ℕ) (key old starts bytes new : List ℕ) (at : ℕ) (h : IsNodeIn old starts n) (same : bytes ≡ old) (ea : at ≡ entries_before n i) (is : new ≡ spliced at at (two child (length key) ++ key) bytes) where
  row : old ≡ row_bytes entry_bytes (vnum n.heir) n.entries
  row = node_row n old h.is

  abbrev pub mid : List NodeEntry
  mid = entry_of child key ∷ []

  more_is : new ≡ row_bytes entry_bytes (vnum n.heir) (with_those n.entries i i mid)
  unfolding entry_bytes
  more_is =
      is
      ∙ (λ k. spliced (ea k) (ea k) (two child (length key) ++ key) ((same ∙ row) k))
      ∙ those_spliced entry_bytes (vnum n.heir) n.entries i i mid (two child (length key) ++ key) (sym (append-nil (two child (length key) ++ key)))

  pub entry_within : (at ≤ length old) × (length old - at ≤ length new)
  entry_within = subst (λ (k : ℕ). (k ≤ length old) × (length old - k ≤ length new)) (sym ea) (those_within entry_bytes (vnum n.heir) n.entries i i mid old new row more_is)

  entry_ends : (e : ℕ) → e ≡ length new - (length old - at) → e ≡ entries_before n i + length (flat_map entry_bytes mid)
  entry_ends e end = end ∙ ap (λ (k : ℕ). length new - (length old - k)) ea ∙ those_end entry_bytes (vnum n.heir) n.entries i i mid old new row more_is

  pub entry_may : (e : ℕ) → e ≡ length new - (length old - at) → length new < 2 ^ 64 → All (MayShift at e) (drop i starts)
  entry_may e end within =
      subst (λ (k : ℕ). All (MayShift k e) (drop i starts)) (sym ea) (those_may entry_bytes (vnum n.heir) n.entries i i mid old new row more_is e starts h.begin (entry_ends e end) within)

  pub entry_is_node : (e : ℕ) (news : List ℕ) → child < 2 ^ 64 → SizeFits key → e ≡ length new - (length old - at) → news ≡ take i starts ++ at ∷ map (shifted at e) (drop i starts) → IsNodeIn new news (record { heir = n.heir; entries = with_those n.entries i i mid })
  unfolding node_bytes starts_from
  entry_is_node e news fc fk end are = record {
    fits = record {
      heir = h.fits.heir;
      entries = recursion_from_All EntryFits (with_those n.entries i i mid)
          (All-append EntryFits (take i n.entries) (mid ++ drop i n.entries) (All-take EntryFits i n.entries (all_fit n h.fits))
          (All-append EntryFits mid (drop i n.entries) (All-from_recursion EntryFits mid (record { child = fc; key = fk }, tt)) (All-drop EntryFits i n.entries (all_fit n h.fits))));
    };
    is = more_is;
    begin = are
        ∙ ap (λ (k : ℕ). take i starts ++ k ∷ map (shifted k e) (drop i starts)) ea
        ∙ sym (those_starts entry_bytes (vnum n.heir) n.entries i i mid e starts h.begin (entry_ends e end));
  }

-- ---- those from one place to another

module _ (n : Node) (i j heir : ℕ) (old starts bytes : List ℕ) (from to : ℕ) (le : i ≤ j) (h : IsNodeIn old starts n) (same : bytes ≡ old) (ef : from ≡ entries_before n i) (et : to ≡ entries_before n j) where
  here : bytes ≡ row_bytes entry_bytes (vnum n.heir) n.entries
  here = same ∙ node_row n old h.is

  pub section_order : (from ≤ to) × (to ≤ length bytes)
  section_order = ((run_ends entry_bytes (vnum n.heir) n.entries i j from to le ef et).0, omega (arith, et, ap length here, row_long entry_bytes (vnum n.heir) n.entries j))

  module _ (run new : List ℕ) (run_at : run ≡ take (to - from) (drop from bytes)) (is : new ≡ vnum heir ++ run) where
    are_those : run ≡ flat_map entry_bytes (those_from n.entries i j)
    are_those = run_is entry_bytes (vnum n.heir) n.entries i j from to le ef et bytes run here run_at

    pub section_may : (at : ℕ) (places : List ℕ) → places ≡ starts → at ≡ length new - length run → length new < 2 ^ 64 → All (MayShift from at) (take (j - i) (drop i places))
    section_may at places are end within = run_may entry_bytes (vnum n.heir) n.entries i j (vnum heir) run new places are_those is (are ∙ h.begin) from at ef end within

    pub section_is_node : (at : ℕ) (places news : List ℕ) → places ≡ starts → heir < 2 ^ 64 → at ≡ length new - length run → news ≡ map (shifted from at) (take (j - i) (drop i places)) → IsNodeIn new news (record { heir = heir; entries = those_from n.entries i j })
    unfolding node_bytes
    section_is_node at places news are fh end shift = record {
      fits = record {
        heir = fh;
        entries = recursion_from_All EntryFits (those_from n.entries i j) (All-take EntryFits (j - i) (drop i n.entries) (All-drop EntryFits i n.entries (all_fit n h.fits)));
      };
      is = run_bytes entry_bytes (vnum n.heir) n.entries i j (vnum heir) run new places are_those is (are ∙ h.begin);
      begin = run_starts entry_bytes (vnum n.heir) n.entries i j (vnum heir) run new places are_those is (are ∙ h.begin) from at news ef end shift;
    }
