-- A file without records.
use Rattle.std.proofs.Common.{◌≡◌, ◌∙◌, ℕ, zero, suc, ◌+◌, ◌-◌, ◌*◌, ◌%◌, ◌^◌, ◌≤◌, Bool, true, List, [], ◌++◌, length, take, drop, replicate, refl, sym, ap, subst, arith, length-append, append_assoc, Option, Some, None}
use Rattle.std.specs.FinMap.{empty, get-empty, len-empty}
use Rattle.std.specs.Ordering.{nat_cmp}
use Rattle.std.specs.Cmp.Lexicographic.{slice_cmp}
use Rattle.std.specs.List.Sorted.{IsStrictlySortedBy}
use Rattle.std.proofs.lemmas.List.{take_at, drop_at, drop-drop, take-replicate, drop-replicate, length-replicate, take_all, drop_all, append-nil, replicate-append-replicate}
use Rattle.tc_base.specs.Files.{Files, wrote}
use Rattle.tc_space.specs.Effects.{Changes}
use Rattle.tc_base.specs.Endian.{le_number}
use Rattle.hf_head.specs.declared.head.Head.{Head}
use Rattle.hf_head.specs.Heads.{Spells, head_in, spelled, unit, sections}
use Rattle.hf_block.specs.Walks.{between}
use Rattle.hf_layout.specs.Frees.{Frees, none}
use Rattle.hf_layout.specs.Layout.{LaidOut}
use Rattle.std.specs.Prelude.{slice_get}
use Rattle.std.proofs.Common.{◌↔◌}
use Rattle.tc_base.specs.Maps.{Map}
use Rattle.hf_block.specs.declared.block.BlockAt.{BlockAt}
use Rattle.hf_block.specs.Pieces.{AreBlocks}
use Rattle.hf_block.specs.Rows.{IsListed}
use Rattle.hf_layout.specs.Frees.{IsThere}
use Rattle.hf_pool.specs.declared.pool.Pool.{Pool}
use Rattle.hf_pool.specs.Pools.{IsLaidOut, frees as frees_in}
use Rattle.hf_pool.proofs.Building.{same_free}
use Rattle.hf_pool.specs.Multiples.{AreMultiples}
use Rattle.hf_pool.specs.Sections.{section_bytes}
use Rattle.hf_pool.proofs.Sectioning.{pairs-nil}
use Rattle.hf_tree.specs.declared.parent.Parent.TheVariants.{Bucket}
use Rattle.hf_tree.specs.Trees.{leaf}
use Rattle.hf_tree.specs.Links.{array, links_of, width}
use Rattle.tc_hash.specs.Creating.{IsNew, MayBe, new_bytes}
use Rattle.hf_record.specs.Fields.{HasFields}
use Rattle.hf_record.specs.Holding.{IsHeld}
use Rattle.tc_hash.specs.Sections.{section_of}
use Rattle.tc_hash.specs.Sections.{section_at, section_len}
use Rattle.tc_hash.specs.Settling.{Brought}
use Rattle.tc_hash.proofs.Kept.{Settles, brought}

sorted_none : IsStrictlySortedBy nat_cmp []
unfolding IsStrictlySortedBy
sorted_none = tt

-- a number of zeros
zero_number : (w n : ℕ) → le_number (take w (replicate n 0)) ≡ 0
unfolding le_number
zero_number zero n = refl
zero_number (suc w) zero = refl
zero_number (suc w) (suc n) = ap (λ (m : ℕ). 0 + 256 * m) (zero_number w n) ∙ omega arith

zeros_between : (x : List ℕ) (n from to : ℕ) → length x ≤ from → from ≤ to → to ≤ length x + n → between from to (x ++ replicate n 0) ≡ replicate (to - from) 0
zeros_between x n from to low on high =
    let sum : length x + (from - length x) ≡ from = omega (arith, low) in
    let tail : drop from (x ++ replicate n 0) ≡ replicate (n - (from - length x)) 0 =
    ap (λ (k : ℕ). drop k (x ++ replicate n 0)) (sym sum) ∙ sym (drop-drop (from - length x) (length x) (x ++ replicate n 0))
    ∙ ap (drop (from - length x)) (drop_at x (replicate n 0) (length x) refl) ∙ drop-replicate (from - length x) n 0 in
    ap (take (to - from)) tail ∙ take-replicate (to - from) (n - (from - length x)) 0 (omega (arith, low, on, high))

no_links : (h : Head) (b : ℕ) → length (spelled h) ≡ 256 → sections h ≤ h.first → links_of h [] (new_bytes h) (Bucket b) ≡ 0
unfolding links_of
no_links h b long behind =
    let n : ℕ = width h * h.buckets in
    let all : array h (new_bytes h) ≡ replicate (256 + n - 256) 0 = zeros_between (spelled h) (h.first - 256) 256 (256 + n) (omega (arith, long)) (omega arith) (omega (arith, long, behind)) in
    ap (λ (l : List ℕ). unit h * le_number (take (width h) (drop (width h * b) l))) all
    ∙ ap (λ (l : List ℕ). unit h * le_number (take (width h) l)) (drop-replicate (width h * b) (256 + n - 256) 0)
    ∙ ap (λ (m : ℕ). unit h * m) (zero_number (width h) (256 + n - 256 - width h * b)) ∙ omega arith

pub new_fields : (kind apow fpow buckets : ℕ) (large : Bool) (h : Head) → MayBe kind apow fpow buckets → IsNew kind apow fpow buckets large h → h.size ≤ 2 ^ 40 → HasFields h
new_fields kind apow fpow buckets large h may is short = record {
  kind_most = omega (arith, is.kind_is, may.kind_most);
  kind_known = λ e. may.kind_known (sym is.kind_is ∙ e);
  powers = (omega (arith, is.apow_is, may.apow_least), omega (arith, is.apow_is, may.apow_most), omega (arith, is.fpow_is, may.fpow_most));
  options = is.options_most;
  numbers = record {
    some_buckets = omega (arith, is.buckets_is, may.some_buckets);
    few_buckets = omega (arith, is.buckets_is, may.few_buckets);
    first_aligned = is.aligned;
    first_behind = is.behind;
    size_aligned = ap (λ (n : ℕ). n % unit h) is.size ∙ is.aligned;
    size_least = omega (arith, is.size);
    size_most = short;
  };
}

-- the empty map is held, and the file stands for it
pub new_stands : (h : Head) (u : ℕ) (frees : Frees) → HasFields h → h.records ≡ 0 → h.size ≡ h.first → u ≡ unit h → AreMultiples u frees → ((q : ℕ) → frees q ≡ None) → length (spelled h) ≡ 256 → Spells h (spelled h)
    → LaidOut u h.first h.size [] frees none (new_bytes h) → Brought h h.size frees h.records h.opaque empty (new_bytes h)
new_stands h u frees f zero_records ends same multiples nothing long spells laid =
    let b : List ℕ = new_bytes h in
    let behind = f.numbers.first_behind in
    let sized : length b ≡ h.size = omega (arith, length-append (spelled h) (replicate (h.first - 256) 0), length-replicate {A = ℕ} (h.first - 256) 0, long, ends, behind) in
    let held : IsHeld h h.size [] frees (λ k. None) empty b = record {
      laid = subst (λ (n : ℕ). LaidOut n h.first h.size [] frees none b) same laid;
      widths = λ q r e. absurd cc;
      hang = record {
        holds = record { trees = λ n. leaf; hung = λ n low. record { hangs = no_links h n long behind; ordered = tt; home = tt }; map = λ k. refl };
        all = λ p r e. absurd cc;
      };
      map = λ key value. (λ e. absurd (let g : None ≡ Some value = sym (get-empty (slice_cmp nat_cmp) key) ∙ e in cc), λ w. absurd (let g : None ≡ Some w.1 = w.2 in cc));
    } in
    let settled : Settles h None b b = record { long = sized; head = take_at (spelled h) (replicate (h.first - 256) 0) 256 long; entries = refl; gap = refl; blocks = refl; section = refl } in
    let no_less : section_len h - 0 ≡ section_len h = omega arith in
    let section : section_of h b ≡ section_bytes u (section_len h) [] =
    zeros_between (spelled h) (h.first - 256) (section_at h) (sections h) (omega (arith, long)) (omega arith) (omega (arith, long, behind))
    ∙ ap (λ (n : ℕ). replicate n 0) (sym no_less) ∙ sym (ap (λ (l : List ℕ). l ++ replicate (section_len h - length l) 0) (pairs-nil u 0 (section_len h))) in
    brought h u h.size h.records frees empty h.opaque None b b f same (ap (λ (n : ℕ). h.size % n) same ∙ f.numbers.size_aligned) multiples spells
    ([], record { each = nothing; ascending = sorted_none }, section) settled
    (record { has = record { pieces = []; places = λ k. None; is = held; short = f.numbers.size_most }; count = zero_records ∙ sym (len-empty (slice_cmp nat_cmp) (List ℕ)) })

-- ---- zeros written

pub wrote_end : (at : ℕ) (x old : List ℕ) → length old ≡ at → wrote at x old ≡ old ++ x
unfolding wrote
wrote_end at x old e = rw (take_all at old (omega (arith, e)), drop_all (at + length x) old (omega (arith, e))) (append-nil (old ++ x))

-- a head in an empty file, and zeros behind it
pub head_written : (x old new : List ℕ) → new ≡ wrote 0 x old → old ≡ [] → new ≡ x
head_written x old new is none = is ∙ wrote_end 0 x old (ap length none) ∙ ap (λ (l : List ℕ). l ++ x) none

pub new_written : {S : Type 0} (tells : Type 0) (now : S → Files) (file : ℕ) (h : Head) (x : List ℕ) (a b c : S) → x ≡ spelled h → length x ≡ 256 → (tells → now a file ≡ []) → (tells → Changes now file (wrote 0 x (now a file)) a b)
    → (tells → Changes now file (wrote 256 (replicate (h.first - 256) 0) (now b file)) b c) → tells → Changes now file (new_bytes h) a c
new_written tells now file h x a b c is long none first second t =
    let z : List ℕ = replicate (h.first - 256) 0 in
    record {
      here = (second t).here ∙ ap (wrote 256 z) (head_written x (now a file) (now b file) (first t).here (none t)) ∙ wrote_end 256 z x long ∙ ap (λ (l : List ℕ). l ++ z) is;
      others = λ g ne. (second t).others g ne ∙ (first t).others g ne;
    }

pub zeros_more : (old : List ℕ) (m n : ℕ) (z : List ℕ) → z ≡ replicate n 0 → (old ++ replicate m 0) ++ z ≡ old ++ replicate (m + n) 0
zeros_more old m n z e = ap (λ (l : List ℕ). (old ++ replicate m 0) ++ l) e ∙ append_assoc old (replicate m 0) (replicate n 0) ∙ ap (λ (l : List ℕ). old ++ l) (replicate-append-replicate m n 0)

pub zeros_front : (n m : ℕ) (z : List ℕ) → z ≡ replicate m 0 → n ≤ m → take n z ≡ replicate n 0
zeros_front n m z e le = ap (take n) e ∙ take-replicate n m 0 le

-- ---- its pool

pub none_listed : (frees : Frees) (blocks : List BlockAt) → blocks ≡ [] → ((q t : ℕ) → IsThere frees q t ↔ IsListed blocks q t) → (q : ℕ) → frees q ≡ None
none_listed frees blocks e each q = none_at (frees q) refl
  where
    none_at : (o : Option ℕ) → frees q ≡ o → o ≡ None
    none_at None is = refl
    none_at (Some t) is =
        let l = (each q t).0 is in
        let f : ◌≡◌ {A = Option BlockAt} None (Some (record { place = q; size = t; free = true })) = ap (λ (b : List BlockAt). slice_get b l.0) (sym e) ∙ l.1 in
        absurd cc

pub no_blocks_between : (u first size : ℕ) (bytes : List ℕ) → size ≡ first → AreBlocks u (between first size bytes) []
no_blocks_between u first size bytes e = let none_left : size - first ≡ 0 = omega (arith, e) in record { whole = tt; is = ap (λ (n : ℕ). take n (drop first bytes)) none_left }

pub laid_empty : (h : Head) (u : ℕ) (blocks : List BlockAt) (p : Pool) → u ≡ unit h → blocks ≡ [] → h.size ≡ h.first → IsLaidOut u h.first h.size blocks p → (bytes : List ℕ) → h.size ≤ length bytes → LaidOut (unit h) h.first h.size [] (frees_in p) none bytes
laid_empty h u blocks p same none_listed_ ends laid bytes within =
    subst (λ (n : ℕ). LaidOut n h.first h.size [] (frees_in p) none bytes) same (laid [] bytes within (no_blocks_between u h.first h.size bytes ends) (same_free blocks [] none_listed_))

-- ---- the file held open

pub brought_same : (h h' : Head) (p p' : Pool) (r r' : ℕ) (o o' : List ℕ) (m : Map) (bytes : List ℕ) → h' ≡ h → p' ≡ p → r' ≡ r → o' ≡ o → Brought h p.size (frees_in p) r o m bytes → Brought h' p'.size (frees_in p') r' o' m bytes
brought_same h h' p p' r r' o o' m bytes eh ep er eo b =
    subst (λ (x : Head). Brought x p'.size (frees_in p') r' o' m bytes) (sym eh)
    (subst (λ (x : Pool). Brought h x.size (frees_in x) r' o' m bytes) (sym ep)
    (subst (λ (x : ℕ). Brought h p.size (frees_in p) x o' m bytes) (sym er)
    (subst (λ (x : List ℕ). Brought h p.size (frees_in p) r x m bytes) (sym eo) b)))

-- the bytes of a file without blocks stand for the empty map, which is held
pub stands_anew : (h : Head) (p : Pool) (bytes : List ℕ) → HasFields h → h.records ≡ 0 → h.size ≡ h.first → p.unit ≡ unit h → p.size ≡ h.size → ((q : ℕ) → frees_in p q ≡ None) → ((bs : List ℕ) → h.size ≤ length bs → LaidOut (unit h) h.first h.size [] (frees_in p) none bs)
    → Spells h (spelled h) → length (spelled h) ≡ 256 → bytes ≡ new_bytes h → Brought h p.size (frees_in p) h.records h.opaque empty bytes
stands_anew h p bytes f zero_records ends same sized nothing laid spells long e =
    let behind = f.numbers.first_behind in
    let all : h.size ≤ length (new_bytes h) = omega (arith, length-append (spelled h) (replicate (h.first - 256) 0), length-replicate {A = ℕ} (h.first - 256) 0, long, ends, behind) in
    subst (λ (l : List ℕ). Brought h p.size (frees_in p) h.records h.opaque empty l) (sym e)
    (subst (λ (n : ℕ). Brought h n (frees_in p) h.records h.opaque empty (new_bytes h)) (sym sized)
    (new_stands h (unit h) (frees_in p) f zero_records ends refl (subst (λ (n : ℕ). AreMultiples n (frees_in p)) same p.multiples) nothing long spells (laid (new_bytes h) all)))

-- the file that was made, from what the calls say
pub create_brought : (kind apow fpow buckets : ℕ) (large : Bool) (h : Head) (p : Pool) (bytes : List ℕ) → MayBe kind apow fpow buckets → IsNew kind apow fpow buckets large h → h.size ≤ 2 ^ 40 → p.unit ≡ unit h → p.size ≡ h.size → ((q : ℕ) → frees_in p q ≡ None)
    → ((bs : List ℕ) → h.size ≤ length bs → LaidOut (unit h) h.first h.size [] (frees_in p) none bs) → Spells h (spelled h) → length (spelled h) ≡ 256 → bytes ≡ new_bytes h → Brought h p.size (frees_in p) h.records h.opaque empty bytes
create_brought kind apow fpow buckets large h p bytes may is short same sized nothing laid spells long e = stands_anew h p bytes (new_fields kind apow fpow buckets large h may is short) is.records is.size same sized nothing laid spells long e

-- its head at the front
pub create_head : (h now : Head) (bytes : List ℕ) → now ≡ h → Spells h (spelled h) → length (spelled h) ≡ 256 → bytes ≡ new_bytes h → head_in (take 256 bytes) ≡ now
create_head h now bytes same spells long e = ap (λ (l : List ℕ). head_in (take 256 l)) e ∙ ap (λ (l : List ℕ). head_in l) (take_at (spelled h) (replicate (h.first - 256) 0) 256 long) ∙ spells.fields ∙ sym same

-- zeros behind zeros
pub zeros_then : {S : Type 0} (now : S → Files) (file : ℕ) (a b c : S) (start x : List ℕ) (m n k : ℕ) → Changes now file (start ++ replicate m 0) a b → Changes now file (now b file ++ x) b c → x ≡ replicate n 0 → k ≡ m + n → Changes now file (start ++ replicate k 0) a c
zeros_then now file a b c start x m n k first second is sum = record {
  here = second.here ∙ ap (λ (l : List ℕ). l ++ x) first.here ∙ zeros_more start m n x is ∙ ap (λ (z : ℕ). start ++ replicate z 0) (sym sum);
  others = λ g ne. second.others g ne ∙ first.others g ne;
}

pub zeros_are : (z : List ℕ) (n : ℕ) → z ≡ replicate n 0 → z ≡ replicate (length z) 0
zeros_are z n e = let long : n ≡ length z = sym (length-replicate {A = ℕ} n 0) ∙ ap length (sym e) in e ∙ ap (λ (k : ℕ). replicate k 0) long
