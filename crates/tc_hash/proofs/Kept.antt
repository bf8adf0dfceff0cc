-- What is held stays where the blocks, the bucket array and the records do.
use Rattle.std.proofs.Common.{◌≡◌, ◌≢◌, ◌∙◌, ◌⊎◌, inl, inr, ℕ, ◌+◌, ◌-◌, ◌*◌, ◌%◌, ◌^◌, ◌<◌, ◌≤◌, List, length, take, replicate, refl, sym, ap, subst, arith, Option, Some, None, IfSome, length-append}
use Rattle.std.specs.Prelude.{unwrap_or}
use Rattle.std.specs.FinMap.{get, len}
use Rattle.std.proofs.Math.Nat.{mod-lt}
use Rattle.std.proofs.lemmas.Bool.{cases_eq}
use Rattle.hf_layout.specs.Layout.{free_of}
use Rattle.hf_layout.proofs.Places.{below}
use Rattle.std.proofs.lemmas.List.{places, same_lists, length-replicate, length-take-le}
use Rattle.tc_base.specs.Maps.{Map}
use Rattle.tc_base.specs.Files.{wrote}
use Rattle.hf_head.specs.declared.head.Head.{Head}
use Rattle.hf_head.specs.Heads.{IsValid, Spells, head_in, spelled, unit, sections}
use Rattle.hf_block.specs.Pieces.{Record, Piece, AreBlocks}
use Rattle.hf_block.specs.Walks.{between}
use Rattle.hf_layout.specs.Frees.{Frees, none}
use Rattle.hf_pool.specs.Pools.{frees as frees_in}
use Rattle.hf_record.specs.declared.body.Body.{Body}
use Rattle.hf_layout.specs.Layout.{record_at, frees_of, LaidOut, Keeps}
use Rattle.hf_tree.specs.declared.parent.Parent.{Parent}
use Rattle.hf_tree.specs.declared.parent.Parent.TheVariants.{Bucket, Left, Right}
use Rattle.hf_tree.specs.Keys.{Key, bucket_of}
use Rattle.hf_tree.specs.Links.{array, entry, left_of, right_of, links_of, width, HasBlocks}
use Rattle.hf_tree.specs.Rules.{Links, Records}
use Rattle.hf_tree.specs.Standing.{AllHang, IsMapOf}
use Rattle.hf_tree.proofs.Fields.{is_bare}
use Rattle.hf_tree.proofs.Ways.{at_home, once, names, in_order}
use Rattle.hf_pool.specs.Multiples.{AreMultiples}
use Rattle.hf_record.specs.Fields.{HasFields}
use Rattle.hf_record.specs.Holding.{IsHeld}
use Rattle.tc_hash.specs.Holding.{Holds}
use Rattle.tc_hash.specs.Bringing.{IsNewSection, whole}
use Rattle.tc_hash.specs.Fronts.{ShowsFrees}
use Rattle.tc_hash.specs.Sections.{IsListOf, IsSectionOf, filled, section_at, section_len, section_of}
use Rattle.tc_hash.specs.Settling.{Brought, head_now, patched}
use Rattle.tc_hash.proofs.Listing.{section_lists}
use Rattle.tc_hash.proofs.Keyed.{frees_same, list_same, map_same, map_of-len, single}

-- ---- links

pub links_same : (h : Head) (ps qs : List Piece) (a b : List ℕ) → ((q : ℕ) → record_at h.first qs q ≡ record_at h.first ps q) → array h b ≡ array h a → (c : Parent) → links_of h qs b c ≡ links_of h ps a c
unfolding links_of
links_same h ps qs a b records entries (Bucket n) = ap (λ (l : List ℕ). unit h * entry (width h) n l) entries
links_same h ps qs a b records entries (Left p) = ap (λ (o : Option Record). unit h * left_of o) (records p)
links_same h ps qs a b records entries (Right p) = ap (λ (o : Option Record). unit h * right_of o) (records p)

-- a head with other numbers names the same
pub links_head : (h : Head) (records size : ℕ) (region : List ℕ) (ps : List Piece) (bytes : List ℕ) (c : Parent) → links_of (head_now h records size region) ps bytes c ≡ links_of h ps bytes c
unfolding links_of
links_head h records size region ps bytes (Bucket n) = refl
links_head h records size region ps bytes (Left p) = refl
links_head h records size region ps bytes (Right p) = refl

-- and holds the same
pub holds_now : (h : Head) (records size : ℕ) (region : List ℕ) (end n : ℕ) (frees : Frees) (m : Map) (bytes : List ℕ) → Holds (head_now h records size region) end frees n m bytes → Holds h end frees n m bytes
holds_now h records size region end n frees m bytes held =
    let w = held.has in
    record {
      has = record {
        pieces = w.pieces;
        places = w.places;
        is = record {
          laid = w.is.laid;
          widths = w.is.widths;
          hang = subst (λ (links : Links). AllHang links (record_at h.first w.pieces) h.buckets w.places) (λ i c. links_head h records size region w.pieces bytes c i) w.is.hang;
          map = w.is.map;
        };
        short = w.short;
      };
      count = held.count;
    }

pub held_again : (h : Head) (end end' : ℕ) (ps qs : List Piece) (frees frees' : Frees) (places : Key → Option ℕ) (m : Map) (a b : List ℕ) → IsHeld h end ps frees places m a → LaidOut (unit h) h.first end' qs frees' none b → ((q : ℕ) → record_at h.first qs q ≡ record_at h.first ps q) → array h b ≡ array h a → IsHeld h end' qs frees' places m b
held_again h end end' ps qs frees frees' places m a b held laid records entries = record {
  laid = laid;
  widths = λ q r e. held.widths q r (sym (records q) ∙ e);
  hang =
      subst (λ (links : Links). AllHang links (record_at h.first qs) h.buckets places) (λ i c. sym (links_same h ps qs a b records entries c) i)
      (subst (λ (rs : Records). AllHang (links_of h ps a) rs h.buckets places) (λ i q. sym (records q) i) held.hang);
  map = subst (λ (rs : Records). IsMapOf rs (get m)) (λ i q. sym (records q) i) held.map;
}

-- free blocks at the end were dropped
pub trimmed_holds : (h : Head) (u end end' : ℕ) (frees frees' : Frees) (records : ℕ) (m : Map) (bytes : List ℕ) → u ≡ unit h → ((first : ℕ) (ps : List Piece) (lent : Frees) (bs : List ℕ) → LaidOut u first end ps frees lent bs → Keeps u first end' ps frees' lent bs) → end' ≤ end → Holds h end frees records m bytes → Holds h end' frees' records m bytes
trimmed_holds h u end end' frees frees' records m bytes same trim less held =
    let w = held.has in
    let k = subst (λ (n : ℕ). Keeps n h.first end' w.pieces frees' none bytes) same (trim h.first w.pieces none bytes (subst (λ (n : ℕ). LaidOut n h.first end w.pieces frees none bytes) (sym same) w.is.laid)) in
    record {
      has = record {
        pieces = k.pieces;
        places = w.places;
        is = held_again h end end' w.pieces k.pieces frees frees' w.places m bytes bytes w.is k.is k.records refl;
        short = omega (arith, w.short, less);
      };
      count = held.count;
    }

-- ---- bytes

pub between_behind : (from to at : ℕ) (x a : List ℕ) → at + length x ≤ from → at + length x ≤ length a → between from to (wrote at x a) ≡ between from to a
unfolding wrote
between_behind from to at x a low fits = same_lists _ _ (grind (arith, places)) (λ i d g. grind (arith, places))

between_before : (from to at : ℕ) (x a : List ℕ) → to ≤ at → at + length x ≤ length a → between from to (wrote at x a) ≡ between from to a
unfolding wrote
between_before from to at x a low fits = same_lists _ _ (grind (arith, places)) (λ i d g. grind (arith, places))

between_at : (from to : ℕ) (x a : List ℕ) → length x ≡ to - from → from + length x ≤ length a → between from to (wrote from x a) ≡ x
unfolding wrote
between_at from to x a long fits = same_lists _ _ (grind (arith, places)) (λ i d g. grind (arith, places))

between_cut : (from to end : ℕ) (a : List ℕ) → to ≤ end → between from to (take end a) ≡ between from to a
between_cut from to end a low = same_lists _ _ (grind (arith, places)) (λ i d g. grind (arith, places))

pub length_over : (at : ℕ) (x a : List ℕ) → at + length x ≤ length a → length (wrote at x a) ≡ length a
unfolding wrote
length_over at x a fits = grind (arith, places)

-- a section that is written fits its place
abbrev pub Suits : ℕ → Option (List ℕ) → Type 0
Suits long o = IfSome o (λ s. length s ≡ long)

length_patched : (at long : ℕ) (o : Option (List ℕ)) (a : List ℕ) → Suits long o → at + long ≤ length a → length (patched at o a) ≡ length a
length_patched at long None a s fits = refl
length_patched at long (Some x) a s fits = length_over at x a (omega (arith, s, fits))

patched_behind : (from to at long : ℕ) (o : Option (List ℕ)) (a : List ℕ) → Suits long o → at + long ≤ from → at + long ≤ length a → between from to (patched at o a) ≡ between from to a
patched_behind from to at long None a s low fits = refl
patched_behind from to at long (Some x) a s low fits = between_behind from to at x a (omega (arith, s, low)) (omega (arith, s, fits))

patched_before : (from to at long : ℕ) (o : Option (List ℕ)) (a : List ℕ) → Suits long o → to ≤ at → at + long ≤ length a → between from to (patched at o a) ≡ between from to a
patched_before from to at long None a s low fits = refl
patched_before from to at long (Some x) a s low fits = between_before from to at x a low (omega (arith, s, fits))

-- the section is the one that was written, or that of before
section_patched : (at to long : ℕ) (o : Option (List ℕ)) (x a : List ℕ) → Suits long o → to ≡ at + long → length x ≤ at → to ≤ length a → between at to (patched at o (wrote 0 x a)) ≡ unwrap_or o (between at to a)
section_patched at to long None x a s sum low fits = between_behind at to 0 x a (omega (arith, low)) (omega (arith, low, sum, fits))
section_patched at to long (Some y) x a s sum low fits = between_at at to y (wrote 0 x a) (omega (arith, s, sum)) (omega (arith, s, sum, fits, length_over 0 x a (omega (arith, low, sum, fits))))

-- the head written, the section where it has changed, and the file cut
abbrev pub settled : Head → Option (List ℕ) → List ℕ → List ℕ
settled h section bytes = take h.size (patched (section_at h) section (wrote 0 (spelled h) bytes))

-- the bytes are those of before but for the head and the section
pub record Settles (h : Head) (o : Option (List ℕ)) (old new : List ℕ) : Type 0 where
  pub long : length new ≡ h.size
  pub head : take 256 new ≡ spelled h
  pub entries : array h new ≡ array h old
  pub gap : between (sections h) h.first new ≡ between (sections h) h.first old
  pub blocks : between h.first h.size new ≡ between h.first h.size old
  pub section : section_of h new ≡ unwrap_or o (section_of h old)

pub settles : (h : Head) (o : Option (List ℕ)) (a : List ℕ) → length (spelled h) ≡ 256 → sections h ≤ h.first → h.first ≤ h.size → h.size ≤ length a → Suits (section_len h) o → Settles h o a (settled h o a)
settles h o a long behind on fits suits =
    let x : List ℕ = spelled h in
    let at : ℕ = section_at h in
    let b : List ℕ = wrote 0 x a in
    let c : List ℕ = patched at o b in
    let some : 256 ≤ at = omega arith in
    let same : length b ≡ length a = length_over 0 x a (omega (arith, long, behind, on, fits)) in
    let all : at + section_len h ≤ length a = omega (arith, behind, on, fits) in
    let same2 : length c ≡ length b = length_patched at (section_len h) o b suits (omega (arith, same, all)) in
    record {
      long = length-take-le h.size c (omega (arith, same, same2, fits));
      head = between_cut 0 256 h.size c (omega (arith, some, behind, on)) ∙ patched_before 0 256 at (section_len h) o b suits some (omega (arith, same, all)) ∙ between_at 0 256 x a long (omega (arith, long, behind, on, fits));
      entries = between_cut 256 at h.size c (omega (arith, behind, on)) ∙ patched_before 256 at at (section_len h) o b suits (omega arith) (omega (arith, same, all)) ∙ between_behind 256 at 0 x a (omega (arith, long)) (omega (arith, long, behind, on, fits));
      gap = between_cut (sections h) h.first h.size c (omega (arith, on)) ∙ patched_behind (sections h) h.first at (section_len h) o b suits (omega arith) (omega (arith, same, all)) ∙ between_behind (sections h) h.first 0 x a (omega (arith, long)) (omega (arith, long, behind, on, fits));
      blocks = between_cut h.first h.size h.size c (omega arith) ∙ patched_behind h.first h.size at (section_len h) o b suits (omega (arith, behind)) (omega (arith, same, all)) ∙ between_behind h.first h.size 0 x a (omega (arith, long, behind)) (omega (arith, long, behind, on, fits));
      section = between_cut at (sections h) h.size c (omega (arith, behind, on)) ∙ section_patched at (sections h) (section_len h) o x a suits (omega arith) (omega (arith, long)) (omega (arith, behind, on, fits));
    }

-- ---- a file that was settled

kind_is : (k : ℕ) → k ≤ 3 → k ≢ 2 → (k ≡ 0) ⊎ (k ≡ 1) ⊎ (k ≡ 3)
kind_is k most other = elim (cases_eq k 0) [
  | inl e ↦ inl e
  | inr a ↦ elim (cases_eq k 1) [
    | inl e ↦ inr (inl e)
    | inr b ↦ inr (inr (omega (arith, most, other, a, b)))
  ]
]

options_are : (k : ℕ) → k ≤ 1 → (k ≡ 0) ⊎ (k ≡ 1)
options_are k most = elim (cases_eq k 0) [
  | inl e ↦ inl e
  | inr a ↦ inr (omega (arith, most, a))
]

pub still_valid : (h : Head) (records size : ℕ) (region : List ℕ) → HasFields h → h.first ≤ size → size ≤ 2 ^ 40 → size % unit h ≡ 0 → IsValid (head_now h records size region)
still_valid h records size region f on short aligned = record {
  is_kind = kind_is h.kind f.kind_most f.kind_known;
  powers = f.powers;
  known_options = options_are h.options f.options;
  numbers = record {
    some_buckets = f.numbers.some_buckets;
    few_buckets = f.numbers.few_buckets;
    first_aligned = f.numbers.first_aligned;
    first_behind = f.numbers.first_behind;
    size_aligned = aligned;
    size_least = on;
    size_most = short;
  };
}

low : (n : ℕ) → 1 ≤ n → (k : Key) → bucket_of n k < n
unfolding bucket_of
low n some k = mod-lt _ some

-- no free block stands at place 0
none_first : (u first end : ℕ) (ps : List Piece) (frees : Frees) (bytes : List ℕ) → LaidOut u first end ps frees none bytes → 0 < first → frees 0 ≡ None
none_first u first end ps frees bytes laid some = frees_same u first end ps frees bytes laid 0 ∙ ap free_of (below first ps 0 some)

pub brought : (h : Head) (u end records : ℕ) (frees : Frees) (m : Map) (region : List ℕ) (o : Option (List ℕ)) (a b : List ℕ) → HasFields h → u ≡ unit h → end % u ≡ 0 → AreMultiples u frees → Spells (head_now h records end region) (spelled (head_now h records end region))
    → IsSectionOf h u frees (unwrap_or o (section_of h a)) → Settles (head_now h records end region) o a b → Holds h end frees records m a → Brought h end frees records region m b
brought h u end records frees m region o a b f same aligned multiples spells is s held =
    let w = held.has in
    let ps : List Piece = w.pieces in
    let now : Head = head_now h records end region in
    let old = w.is.laid in
    let laid : LaidOut (unit h) h.first end ps frees none b = record {
      room = old.room;
      on = old.on;
      within = omega (arith, s.long);
      filled = subst (λ (l : List ℕ). AreBlocks (unit h) l ps) (sym s.blocks) old.filled;
      shared = old.shared;
    } in
    let again = held_again h end end ps ps frees frees w.places m a b w.is laid (λ q. refl) s.entries in
    let valid = still_valid h records end region f old.on w.short (subst (λ (n : ℕ). end % n ≡ 0) same aligned) in
    let blocks : HasBlocks now end ps b = record { on = old.on; within = laid.within; filled = laid.filled; widths = w.is.widths } in
    let links : Links = links_of now ps b in
    let hang : AllHang links (record_at h.first ps) h.buckets w.places = subst (λ (l : Links). AllHang l (record_at h.first ps) h.buckets w.places) (λ i c. sym (links_head h records end region ps b c) i) again.hang in
    let bare = is_bare now end ps b valid blocks in
    let few = low h.buckets f.numbers.some_buckets in
    let one = single links h.first ps h.buckets w.places hang in
    let list : IsListOf u frees (section_of h b) = subst (λ (l : List ℕ). IsListOf u frees l) (sym is.2 ∙ sym s.section) (section_lists u (section_len h) frees is.0 (omega arith) (none_first (unit h) h.first end ps frees b laid (omega (arith, f.numbers.first_behind))) multiples is.1) in
    record {
      holds = record { has = record { pieces = ps; places = w.places; is = again; short = w.short }; count = held.count };
      stands = record {
        is = record {
          head = now;
          pieces = ps;
          opens = record {
            long = omega (arith, s.long, old.on, f.numbers.first_behind);
            valid = valid;
            spells = subst (λ (l : List ℕ). Spells now l) (sym s.head) spells;
            kind_is = refl;
            blocks = blocks;
          };
          names = names links (record_at h.first ps) h.buckets w.places bare hang few;
          once = once links (record_at h.first ps) h.buckets w.places bare hang few;
          home = at_home links (record_at h.first ps) h.buckets w.places bare hang;
          order = in_order links (record_at h.first ps) h.buckets w.places bare hang;
          count = held.count ∙ ap len (map_same (unit h) h.first ps m old.filled.whole one w.is.map) ∙ map_of-len (unit h) h.first ps old.filled.whole one;
          pool = list_same (unit h) frees (frees_of h.first ps) (section_of h b) (frees_same (unit h) h.first end ps frees b laid) (subst (λ (n : ℕ). IsListOf n frees (section_of h b)) same list);
          is = w.is.map;
        };
        region_is = refl;
      };
      head = ap (λ (l : List ℕ). head_in l) s.head ∙ spells.fields;
      spells = s.head;
    }

-- ---- settling, from what its calls say

-- the file reaches up to the first block
pub reaches : (h : Head) (end records : ℕ) (frees : Frees) (m : Map) (bytes : List ℕ) → Holds h end frees records m bytes → h.first ≤ length bytes
reaches h end records frees m bytes held = omega (arith, held.has.is.laid.on, held.has.is.laid.within)

pub filled_long : (n : ℕ) (x : List ℕ) → length x ≤ n → length (filled n x) ≡ n
filled_long n x few = omega (arith, length-append x (replicate (n - length x) 0), length-replicate {A = ℕ} (n - length x) 0, few)

-- the section that stands in the file once the new one is written: the one of before where there is no new one
module _ (b : Body) (was old : List ℕ) (mid : List ℕ) (few : length was ≤ section_len b.head) (shows : section_of b.head mid ≡ filled (section_len b.head) was) (listed : ShowsFrees b.head b.pool mid) where
  pub whole_suits : (o : Option (List ℕ)) → IsNewSection b was old o → Suits (section_len b.head) (whole b o)
  whole_suits None is = tt
  whole_suits (Some new) is = filled_long (section_len b.head) new (is.few few)

  pub whole_lists : (o : Option (List ℕ)) → IsNewSection b was old o → IsSectionOf b.head b.pool.unit (frees_in b.pool) (unwrap_or (whole b o) (section_of b.head mid))
  whole_lists None is = listed is.0
  whole_lists (Some new) is = is.lists few

  -- as far as it is known
  pub front_few : (o : Option (List ℕ)) → IsNewSection b was old o → length (unwrap_or o old) ≤ section_len b.head
  front_few None is = omega (arith, few, ap length is.1)
  front_few (Some new) is = is.few few

  pub front_shows : (o : Option (List ℕ)) → IsNewSection b was old o → unwrap_or (whole b o) (section_of b.head mid) ≡ filled (section_len b.head) (unwrap_or o old)
  front_shows None is = shows ∙ ap (filled (section_len b.head)) (sym is.1)
  front_shows (Some new) is = refl
