-- Where the entries of a node stand in its bytes.
use Rattle.std.proofs.Common.{◌≡◌, ℕ, ◌+◌, ◌<◌, ◌≤◌, ◌^◌, List, ◌++◌, length, take, drop, sym, ap, subst, ◌∙◌, append_assoc, arith, length-append}
use Rattle.std.specs.Prelude.{slice_get, Some}
use Rattle.std.specs.List.{flat_map, slice_index_or}
use Rattle.tc_base.specs.Vnum.{vnum}
use Rattle.bt_page.specs.declared.page.NodeEntry.{NodeEntry}
use Rattle.bt_page.specs.declared.page.Node.{Node}
use Rattle.bt_page.specs.Pages.{EntryFits, NodeFits, two, entry_bytes, node_bytes}
use Rattle.bt_page.specs.Spelled.{Spells}
use Rattle.bt_page.proofs.AtFronts.{node_only}
use Rattle.bt_slots.specs.Reads.{number_in, entry_in, node_in}
use Rattle.bt_slots.specs.Slots.{IsNodeIn}
use Rattle.bt_slots.proofs.ReadBack.{number_at, entry_read, node_made}
use Rattle.bt_slots.proofs.Starts.{starts_long, start_is, behind_start}
use Rattle.bt_slots.proofs.Places.{run_within, held}

-- what a node is seen as, where it is kept
pub seen_node : (bytes starts : List ℕ) (n : Node) → node_in (length starts) bytes ≡ n → IsNodeIn bytes starts (node_in (length starts) bytes) → IsNodeIn bytes starts n
seen_node bytes starts n is h = subst (λ (m : Node). IsNodeIn bytes starts m) is h

-- bytes that are a node's beside the places of its entries are kept as it
pub kept_node : (bytes starts : List ℕ) (n : Node) → IsNodeIn bytes starts n → IsNodeIn bytes starts (node_in (length starts) bytes)
kept_node bytes starts n h = subst (λ (m : Node). IsNodeIn bytes starts m) (sym (node_made bytes starts n h)) h

pub spells_node : (bytes starts : List ℕ) (n : Node) → IsNodeIn bytes starts n → Spells NodeFits node_bytes bytes n
spells_node bytes starts n h = record { fits = h.fits; is = h.is }

-- what is true of a node beside the places of its entries
module _ (bytes starts : List ℕ) (n : Node) (h : IsNodeIn bytes starts n) where
  pub entries_count : length starts ≡ length n.entries
  entries_count = ap length h.begin ∙ starts_long entry_bytes (length (vnum n.heir)) n.entries

  -- its heir is read, and its entries stand behind it
  pub heir_at : number_in bytes ≡ (n.heir, flat_map entry_bytes n.entries)
  unfolding node_bytes
  heir_at = number_at n.heir bytes (flat_map entry_bytes n.entries) h.fits.heir h.is

  pub entry_start : (i d : ℕ) → i < length n.entries → slice_index_or starts i d ≡ length (vnum n.heir) + length (flat_map entry_bytes (take i n.entries))
  entry_start i d lt = ap (λ (xs : List ℕ). slice_index_or xs i d) h.begin ∙ start_is entry_bytes (length (vnum n.heir)) n.entries i d lt

  pub entry_within : (i d : ℕ) → i < length n.entries → slice_index_or starts i d ≤ length bytes
  unfolding node_bytes
  entry_within i d lt = omega (arith, entry_start i d lt, ap length h.is, length-append (vnum n.heir) (flat_map entry_bytes n.entries), run_within entry_bytes n.entries i)

  pub entry_behind : (i d : ℕ) (e : NodeEntry) → i < length n.entries → slice_get n.entries i ≡ Some e → drop (slice_index_or starts i d) bytes ≡ entry_bytes e ++ flat_map entry_bytes (drop (i + 1) n.entries)
  unfolding node_bytes
  entry_behind i d e lt is = ap (λ (k : ℕ). drop k bytes) (entry_start i d lt) ∙ ap (drop (length (vnum n.heir) + length (flat_map entry_bytes (take i n.entries)))) h.is ∙ behind_start entry_bytes (vnum n.heir) n.entries i e is

-- the key and the page of an entry in front
pub key_in : (i : ℕ) (n : Node) (e : NodeEntry) (bytes rest : List ℕ) → NodeFits n → slice_get n.entries i ≡ Some e → bytes ≡ entry_bytes e ++ rest → (entry_in bytes).0.key ≡ e.key
key_in i n e bytes rest fits is at = ap (λ (b : List ℕ). (entry_in b).0.key) at ∙ ap (λ (z : NodeEntry × List ℕ). z.0.key) (entry_read e rest (held _ n.entries i e fits.entries is))

-- a number stands in front of it
pub entry_front : (e : NodeEntry) (bytes rest : List ℕ) → EntryFits e → bytes ≡ entry_bytes e ++ rest → (n : ℕ) × (left : List ℕ) × (n < 2 ^ 64) × (bytes ≡ vnum n ++ left)
unfolding entry_bytes
entry_front e bytes rest fits at = (e.child, vnum (length e.key) ++ (e.key ++ rest), fits.child, at ∙ append_assoc (two e.child (length e.key)) e.key rest ∙ append_assoc (vnum e.child) (vnum (length e.key)) (e.key ++ rest))

pub child_in : (i : ℕ) (n : Node) (e : NodeEntry) (bytes rest : List ℕ) → NodeFits n → slice_get n.entries i ≡ Some e → bytes ≡ entry_bytes e ++ rest → (number_in bytes).0 ≡ e.child
unfolding entry_in
child_in i n e bytes rest fits is at = ap (λ (b : List ℕ). (entry_in b).0.child) at ∙ ap (λ (z : NodeEntry × List ℕ). z.0.child) (entry_read e rest (held _ n.entries i e fits.entries is))

-- what the bytes of a node were read as is it
pub node_again : (bytes : List ℕ) (n m : Node) → NodeFits n → bytes ≡ node_bytes n → Spells NodeFits node_bytes bytes m → m ≡ n
node_again bytes n m fits is h = node_only bytes n m (record { fits = fits; is = is }) h
