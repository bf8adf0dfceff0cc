-- Records written: into a block that was taken, at the end, and over a block that a record has.
use Rattle.std.proofs.Common.{◌≡◌, ◌≢◌, ◌∙◌, ◌⊎◌, inl, inr, ℕ, ◌+◌, ◌-◌, ◌*◌, ◌%◌, ◌/◌, ◌<◌, ◌≤◌, ◌^◌, List, length, replicate, take, false, refl, sym, ap, subst, arith, Option, Some, None, Bool, cond}
use Rattle.std.specs.Prelude.{◌==◌, if◌then◌else◌}
use Rattle.std.proofs.lemmas.Bool.{cases_eq, eq-eqb, ne_eqb}
use Rattle.std.proofs.lemmas.List.{places, same_lists}
use Rattle.std.proofs.Math.Nat.{mul_comm, mul-le-mul_left}
use Rattle.std.proofs.lemmas.Nat.{pow-add}
use Rattle.std.specs.declared.cmp.Ordering.TheVariants.{Less, Equal, Greater}
use Rattle.std.specs.FinMap.{get, insert}
use Rattle.tc_base.specs.Files.{wrote}
use Rattle.tc_base.specs.Hashes.{second}
use Rattle.tc_base.specs.Maps.{Map}
use Rattle.hf_head.specs.declared.head.Head.{Head}
use Rattle.hf_head.specs.Heads.{IsValid, is_large, unit}
use Rattle.hf_block.specs.Heads.{free_head}
use Rattle.hf_block.specs.Pieces.{Record, Piece, held, spell, size_of, IsWhole}
use Rattle.hf_layout.specs.Frees.{Frees, HasNone, IsBest, with_block, without, none}
use Rattle.hf_layout.specs.Layout.{record_of, record_at, frees_of, HasBlock, IsShared, LaidOut, TakesBack, Writes}
use Rattle.hf_layout.proofs.Chains.{front_stays}
use Rattle.hf_layout.proofs.Places.{behind}
use Rattle.hf_layout.proofs.Records.{fills, fills_front, stands_behind, lent_is_block}
use Rattle.hf_layout.proofs.Shares.{ends, ends_within, known, inside_none, shared_as, with_at, with_off, without_at, without_off}
use Rattle.hf_layout.proofs.Standing.{pool_lies_inside, record_is_block}
use Rattle.hf_layout.proofs.Segments.{rest_aligned}
use Rattle.hf_pool.specs.declared.pool.Pool.{Pool}
use Rattle.hf_pool.specs.Marks.{marked, parted}
use Rattle.hf_pool.specs.Pools.{frees, IsTaken, Lends, GoesBack, Takes}
use Rattle.hf_pool.proofs.Laying.{parted_front, parted_whole}
use Rattle.hf_pool.proofs.Marking.{wrote_longer}
use Rattle.hf_tree.specs.declared.parent.Parent.{Parent}
use Rattle.hf_tree.specs.declared.parent.Parent.TheVariants.{Bucket, Left, Right}
use Rattle.hf_tree.specs.Keys.{Key, key_cmp}
use Rattle.hf_tree.specs.Views.{Holds}
use Rattle.hf_tree.specs.Links.{width, entry, left_of, right_of, key_of, links_of, view_of}
use Rattle.hf_tree.specs.Standing.{IsMapOf}
use Rattle.hf_tree.proofs.Orders.{three, same_key, equal_same}
use Rattle.hf_record.specs.Allocating.{HoldsWritten}
use Rattle.hf_record.specs.Holding.{HasMap}
use Rattle.tc_space.specs.Ranges.{Passes}
use Rattle.hf_record.specs.Costs.{FewDiffer}
use Rattle.hf_record.specs.Filling.{reach}
use Rattle.hf_record.specs.Moves.{Replaced, Added, IsWithin, IsGiven, HasNoRoom}
use Rattle.hf_record.proofs.Bytes.{unit_some}
use Rattle.hf_record.proofs.Differ.{few_same, few_wrote}
use Rattle.hf_record.proofs.Finding.{HasHere}
use Rattle.hf_record.proofs.Fronts.{array_same}
use Rattle.hf_record.proofs.Maps.{insert_here, insert_other}
use Rattle.hf_record.proofs.Room.{head_long, atleast}
use Rattle.hf_record.proofs.Spared.{length_over}
use Rattle.hf_record.proofs.Outs.{is_within, start_low}

-- what is written over what was written last
twice : (place : ℕ) (x y bytes : List ℕ) → place ≤ length bytes → length y ≤ length x → wrote place x (wrote place y bytes) ≡ wrote place x bytes
unfolding wrote
twice place x y bytes low few = same_lists _ _ (grind (arith, places)) (λ i d g. grind (arith, places))

if_chain : (o p q : Option Record) (b : Bool) (r : Record) → o ≡ cond b (Some r) p → p ≡ q → o ≡ cond b (Some r) q
if_chain o p q b r e f = e ∙ ap (λ (z : Option Record). cond b (Some r) z) f

only_lent : (place size q : ℕ) → without (with_block none place size) place q ≡ none q
only_lent place size q = elim (cases_eq q place) [ inl e ↦ without_at (with_block none place size) place q e | inr ne ↦ without_off (with_block none place size) place q ne ∙ with_off none place size q ne ]

relent : (u first end : ℕ) (ps : List Piece) (free lent : Frees) (bytes : List ℕ) → ((q : ℕ) → lent q ≡ none q) → LaidOut u first end ps free lent bytes → LaidOut u first end ps free none bytes
relent u first end ps free lent bytes same l = record {
  room = l.room;
  on = l.on;
  within = l.within;
  filled = l.filled;
  shared = λ q. shared_as (frees_of first ps q) (frees_of first ps q) (free q) (free q) (lent q) (none q) refl refl (sym (same q)) (l.shared q);
}

not_pooled : (there pool lent : Option ℕ) (n : ℕ) → IsShared there pool lent → lent ≡ Some n → pool ≡ None
not_pooled there pool lent n (inl s) e = absurd (let f : None ≡ Some n = sym s.1 ∙ e in cc)
not_pooled there pool lent n (inr s) e = s.0

no_record : (o : Option Record) → ((x : Record) → o ≡ Some x → ⊥) → o ≡ None
no_record None h = refl
no_record (Some x) h = absurd (h x refl)

-- ---- into a block that was taken

past : (h : Head) (place : ℕ) → 2 ^ 32 ≤ place / unit h → 2 ^ (32 + h.apow) ≤ place
past h place le =
    let some = unit_some h in
    let e : 2 ^ (32 + h.apow) ≡ 2 ^ 32 * unit h = pow-add 2 32 h.apow in
    let m : unit h * 2 ^ 32 ≤ unit h * (place / unit h) = mul-le-mul_left (unit h) le in
    let c : 2 ^ 32 * unit h ≡ unit h * 2 ^ 32 = mul_comm (2 ^ 32) (unit h) in
    omega (arith, e, m, c, some)

pub reach_small : (h : Head) → is_large h ≡ false → reach h ≡ 2 ^ (32 + h.apow)
reach_small h small = ap (λ (b : Bool). cond b (2 ^ 64 - 1) (2 ^ (32 + h.apow))) small

-- the front of the file once a block was parted
parted_front_same : (first place size found : ℕ) (bytes : List ℕ) → first ≤ place → size ≤ found → place + found ≤ length bytes → (take first (parted place size found bytes) ≡ take first bytes) × (length bytes ≤ length (parted place size found bytes))
parted_front_same first place size found bytes low enough fits = elim (cases_eq found size) [
  | inl e ↦ (ap (take first) (parted_whole place size found bytes e), omega (arith, ap length (parted_whole place size found bytes e)))
  | inr ne ↦ (let p = parted_front place size found bytes (omega (arith, enough, ne)) in (
    ap (take first) p ∙ front_stays first (place + size) (free_head (found - size)) bytes (omega (arith, low)) (omega (arith, fits, enough)),
    omega (arith, ap length p, wrote_longer (place + size) (free_head (found - size)) bytes (omega (arith, fits, enough))),
  ))
]

-- the place lies in the file, where a record is written, and behind the first block
pub taken_inside : (most u first : ℕ) (old new : Pool) (place size : ℕ) (ps : List Piece) (before middle : List ℕ) → LaidOut u first old.size ps (frees old) none before → Takes most old new size place → IsTaken most (frees old) size place before middle → (first ≤ place) × (place ≤ length middle)
taken_inside most u first old new place size ps before middle l (inl (found, t)) cut =
    let k = known u first old.size ps (frees old) none before place found l t.best.there in
    let w = ends_within u first ps k.piece place k.at in
    let last = ends u first old.size ps (frees old) none before l in
    let fits : place + found ≤ length before = omega (arith, w.1, k.size, last, l.within) in
    let p = parted_front_same first place size found before w.0 t.best.enough fits in
    (w.0, omega (arith, fits, p.1, ap length (cut.parts found t.best)))
taken_inside most u first old new place size ps before middle l (inr g) cut = (omega (arith, g.at, l.on), omega (arith, g.at, l.within, ap length (cut.same g.none)))

-- and the blocks end in the file as before
pub taken_long : (most u first : ℕ) (old new : Pool) (place size : ℕ) (ps : List Piece) (before middle : List ℕ) → LaidOut u first old.size ps (frees old) none before → Takes most old new size place → IsTaken most (frees old) size place before middle → old.size ≤ length middle
taken_long most u first old new place size ps before middle l (inl (found, t)) cut =
    let k = known u first old.size ps (frees old) none before place found l t.best.there in
    let w = ends_within u first ps k.piece place k.at in
    let last = ends u first old.size ps (frees old) none before l in
    let fits : place + found ≤ length before = omega (arith, w.1, k.size, last, l.within) in
    let p = parted_front_same first place size found before w.0 t.best.enough fits in
    omega (arith, l.within, p.1, ap length (cut.parts found t.best))
taken_long most u first old new place size ps before middle l (inr g) cut = omega (arith, l.within, ap length (cut.same g.none))

pub added_taken : (most u first : ℕ) (old new : Pool) (place size : ℕ) (ps : List Piece) (before middle : List ℕ) (r : Record) → LaidOut u first old.size ps (frees old) none before → IsWhole u (held r) → size_of (held r) ≡ size → Takes most old new size place → IsTaken most (frees old) size place before middle → Lends most u old.size (frees old) (frees new) size place before middle
    → Added u first new.size ps (frees new) place r before (wrote place (spell (held r)) middle)
added_taken most u first old new place size ps before middle r l whole sized (inl (found, t)) cut lends =
    let k = known u first old.size ps (frees old) none before place found l t.best.there in
    let w = ends_within u first ps k.piece place k.at in
    let last = ends u first old.size ps (frees old) none before l in
    let fits : place + found ≤ length before = omega (arith, w.1, k.size, last, l.within) in
    let p = parted_front_same first place size found before w.0 t.best.enough fits in
    let long : place ≤ length middle = omega (arith, fits, p.1, ap length (cut.parts found t.best)) in
    let keeps = lends.lent first old.size found ps none l t.best in
    let lent : Frees = with_block none place size in
    let at : lent place ≡ Some size = with_at none place size place refl in
    let b = lent_is_block u first old.size place size keeps.pieces (frees new) lent (marked place size middle) keeps.is at in
    let done = fills u first old.size place keeps.pieces (frees new) lent (marked place size middle) r keeps.is whole (b.0, b.1, b.2 ∙ sym sized) (not_pooled (frees_of first keeps.pieces place) (frees new place) (lent place) size (keeps.is.shared place) at) in
    let gone : record_at first keeps.pieces place ≡ None = no_record (record_at first keeps.pieces place) (λ x e. let n = record_is_block u first old.size place keeps.pieces (frees new) lent (marked place size middle) x keeps.is e in (let f : Some size ≡ None = sym at ∙ n.2 in cc)) in
    let five : 5 ≤ size_of (held r) = atleast u (size_of (held r)) l.room whole.size.some whole.size.aligned in
    let once = twice place (spell (held r)) (free_head size) middle long (omega (arith, head_long size, five)) in
    record {
      now = record {
        pieces = done.pieces;
        is = subst (λ (e : ℕ). LaidOut u first e done.pieces (frees new) none (wrote place (spell (held r)) middle)) (sym t.end)
            (subst (λ (x : List ℕ). LaidOut u first old.size done.pieces (frees new) none x) once (relent u first old.size done.pieces (frees new) (without lent place) _ (only_lent place size) done.is));
        records = λ q. if_chain (record_at first done.pieces q) (record_at first keeps.pieces q) (record_at first ps q) (q == place) r (done.records q) (keeps.records q);
        front = front_stays first place (spell (held r)) middle w.0 long ∙ ap (take first) (cut.parts found t.best) ∙ p.0;
      };
      fresh = sym (keeps.records place) ∙ gone;
    }
added_taken most u first old new place size ps before middle r l whole sized (inr g) cut lends =
    let e : middle ≡ before = cut.same g.none in
    let now = lends.beyond first old.size ps none l g.none in
    let done = stands_behind u first old.size ps (frees new) none middle r now whole in
    let last = ends u first old.size ps (frees new) none middle now in
    let end : old.size + size_of (held r) ≡ new.size = omega (arith, sized, g.end) in
    subst (λ (p : ℕ). Added u first new.size ps (frees new) p r before (wrote p (spell (held r)) middle)) (sym g.at)
    (record {
      now = record {
        pieces = done.pieces;
        is = subst (λ (n : ℕ). LaidOut u first n done.pieces (frees new) none (wrote old.size (spell (held r)) middle)) end done.is;
        records = done.records;
        front = front_stays first old.size (spell (held r)) middle l.on now.within ∙ ap (take first) e;
      };
      fresh = ap record_of (behind u first ps old.size l.filled.whole (omega (arith, last)));
    })

-- what taking a block changes: the head of what is left over
pub few_taken : (most u first : ℕ) (old new : Pool) (place size : ℕ) (ps : List Piece) (before middle : List ℕ) → LaidOut u first old.size ps (frees old) none before → Takes most old new size place → IsTaken most (frees old) size place before middle → FewDiffer 5 before middle
few_taken most u first old new place size ps before middle l (inl (found, t)) cut = elim (cases_eq found size) [
  | inl e ↦ few_same 5 before middle (cut.parts found t.best ∙ parted_whole place size found before e)
  | inr ne ↦ (let inside = pool_lies_inside u first old.size ps (frees old) none before l place found t.best.there in
      subst (λ (x : List ℕ). FewDiffer 5 before x) (sym (cut.parts found t.best ∙ parted_front place size found before (omega (arith, t.best.enough, ne))))
      (few_wrote (place + size) 5 (free_head (found - size)) before (omega (arith, inside, t.best.enough)) (omega (arith, head_long (found - size)))))
]
few_taken most u first old new place size ps before middle l (inr g) cut = few_same 5 before middle (cut.same g.none)

-- the head of what is left over of a free block lies in the file
pub part_inside : (most u first : ℕ) (old : Pool) (place size found : ℕ) (ps : List Piece) (before : List ℕ) → old.unit ≡ u → LaidOut u first old.size ps (frees old) none before → IsBest (frees old) most size place found → size < found → size % u ≡ 0 → place + size + 5 ≤ length before
part_inside most u first old place size found ps before same l best less aligned =
    let inside = pool_lies_inside u first old.size ps (frees old) none before l place found best.there in
    let m = old.multiples place found best.there in
    let rest : (found - size) % old.unit ≡ 0 = rest_aligned old.unit size found less (ap (λ (z : ℕ). size % z) same ∙ aligned) m.1 in
    let five = atleast old.unit (found - size) old.some (omega (arith, less)) rest in
    omega (arith, inside, five, less)

-- what stands before the first block stays, also once the block is written
pub taken_front : (most u first : ℕ) (old new : Pool) (place size : ℕ) (ps : List Piece) (x before middle : List ℕ) → LaidOut u first old.size ps (frees old) none before → Takes most old new size place → IsTaken most (frees old) size place before middle → take first (wrote place x middle) ≡ take first before
taken_front most u first old new place size ps x before middle l (inl (found, t)) cut =
    let k = known u first old.size ps (frees old) none before place found l t.best.there in
    let w = ends_within u first ps k.piece place k.at in
    let last = ends u first old.size ps (frees old) none before l in
    let fits : place + found ≤ length before = omega (arith, w.1, k.size, last, l.within) in
    let p = parted_front_same first place size found before w.0 t.best.enough fits in
    front_stays first place x middle w.0 (omega (arith, fits, p.1, ap length (cut.parts found t.best))) ∙ ap (take first) (cut.parts found t.best) ∙ p.0
taken_front most u first old new place size ps x before middle l (inr g) cut = front_stays first place x middle (omega (arith, g.at, l.on)) (omega (arith, g.at, l.within, ap length (cut.same g.none))) ∙ ap (take first) (cut.same g.none)

-- the file is as long as before
pub taken_same : (most u first : ℕ) (old new : Pool) (place size : ℕ) (ps : List Piece) (before middle : List ℕ) → old.unit ≡ u → size % u ≡ 0 → LaidOut u first old.size ps (frees old) none before → Takes most old new size place → IsTaken most (frees old) size place before middle → length middle ≡ length before
taken_same most u first old new place size ps before middle same aligned l (inl (found, t)) cut = elim (cases_eq found size) [
  | inl e ↦ ap length (cut.parts found t.best ∙ parted_whole place size found before e)
  | inr ne ↦
      (let less : size < found = omega (arith, t.best.enough, ne) in
      let inside = part_inside most u first old place size found ps before same l t.best less aligned in
      ap length (cut.parts found t.best ∙ parted_front place size found before less) ∙ length_over (place + size) (free_head (found - size)) before (omega (arith, inside, head_long (found - size))))
]
taken_same most u first old new place size ps before middle same aligned l (inr g) cut = ap length (cut.same g.none)

-- the place can't be named, or the file is too long; then no free block was taken, and the file is as it was
pub no_room : (h : Head) (u first : ℕ) (old new : Pool) (place size limit long : ℕ) (still log : Type 0) (ps : List Piece) (before : List ℕ) → LaidOut u first old.size ps (frees old) none before → old.size ≤ 2 ^ 40 → old.size ≤ long → (HasNone (frees old) (reach h) size → still) → Takes (reach h) old new size place → (2 ^ 40 < new.size) ⊎ ((is_large h ≡ false) × (2 ^ 32 ≤ place / unit h)) → HasNoRoom h old.size (frees old) limit long still log size
no_room h u first old new place size limit long still log ps before l low on still_is (inl (found, t)) (inl past) = absurd (omega (arith, past, t.end, low))
no_room h u first old new place size limit long still log ps before l low on still_is (inl (found, t)) (inr far) = absurd (let p = past h place far.1 in omega (arith, p, t.best.below, reach_small h far.0))
no_room h u first old new place size limit long still log ps before l low on still_is (inr g) (inl past) = inl (still_is g.none, (on, inr (record { none = g.none; past = inr (omega (arith, past, g.end)) })))
no_room h u first old new place size limit long still log ps before l low on still_is (inr g) (inr far) = inl (still_is g.none, (on, inl (record { small = far.0; none = g.none; far = (let p = past h place far.1 in omega (arith, p, g.at)) })))

-- the file grows past its limit
pub too_long : (h : Head) (u first : ℕ) (old new : Pool) (place size limit long : ℕ) (still log : Type 0) (ps : List Piece) (before : List ℕ) → LaidOut u first old.size ps (frees old) none before → Takes (reach h) old new size place → length before ≤ limit → old.size ≤ long → (HasNone (frees old) (reach h) size → limit < place + size → still) → Passes limit log place size → HasNoRoom h old.size (frees old) limit long still log size
too_long h u first old new place size limit long still log ps before l taken within on still_is (inr full) = inr full
too_long h u first old new place size limit long still log ps before l (inl (found, t)) within on still_is (inl past) = absurd (let inside = pool_lies_inside u first old.size ps (frees old) none before l place found t.best.there in omega (arith, inside, t.best.enough, within, past))
too_long h u first old new place size limit long still log ps before l (inr g) within on still_is (inl past) = inl (still_is g.none past, (on, inr (record { none = g.none; past = inl (omega (arith, past, g.at)) })))

-- ---- over the block of a record

module _ (u first end : ℕ) (ps : List Piece) (free : Frees) (at old : ℕ) (r : Record) (before : List ℕ) (aligned : first % u ≡ 0) (l : LaidOut u first end ps free none before) (block : HasBlock first ps at old) (unpooled : free at ≡ None) (whole : IsWhole u (held r)) where
  abbrev n : ℕ
  n = size_of (held r)

  abbrev middle : List ℕ
  middle = wrote at (spell (held r)) before

  low : first ≤ at
  low = (ends_within u first ps block.0 at block.1).0

  high : at + old ≤ end
  high = omega (arith, (ends_within u first ps block.0 at block.1).1, block.2, ends u first end ps free none before l)

  pub over_inside : at + old ≤ length before
  over_inside = omega (arith, high, l.within)

  front : take first (wrote at (spell (held r)) before) ≡ take first before
  front = front_stays first at (spell (held r)) before low (omega (arith, high, l.within))

  pub over_whole : size_of (held r) ≡ old → Replaced u first end ps free at r before (wrote at (spell (held r)) before)
  over_whole same =
      let w = fills u first end at ps free none before r l whole (block.0, block.1, block.2 ∙ sym same) unpooled in
      record { pieces = w.pieces; is = relent u first end w.pieces free (without none at) middle (λ q. elim (cases_eq q at) [ inl e ↦ without_at none at q e | inr ne ↦ without_off none at q ne ]) w.is; records = w.records; front = front }

  module _ (less : size_of (held r) < old) where
    abbrev lent : Frees
    lent = with_block (without none at) (at + n) (old - n)

    abbrev w : Writes u first end ps free lent at r (marked (at + n) (old - n) middle)
    w = fills_front u first end at old ps free none before r l whole block unpooled less

    rest_at : lent (at + n) ≡ Some (old - n)
    rest_at = with_at (without none at) (at + n) (old - n) (at + n) refl

    rest_block : HasBlock first w.pieces (at + n) (old - n)
    rest_block = lent_is_block u first end (at + n) (old - n) w.pieces free lent (marked (at + n) (old - n) middle) w.is rest_at

    long : length before ≤ length middle
    long = wrote_longer at (spell (held r)) before (omega (arith, high, l.within))

    pub rest_within : IsWithin u end free (at + size_of (held r)) (old - size_of (held r)) (length (wrote at (spell (held r)) before))
    rest_within =
        let i = is_within u first end w.pieces free lent (at + n) (old - n) (marked (at + n) (old - n) middle) aligned w.is rest_block (not_pooled (frees_of first w.pieces (at + n)) (free (at + n)) (lent (at + n)) (old - n) (w.is.shared (at + n)) rest_at) in
        record { sized = i.sized; aligned = i.aligned; high = i.high; apart = i.apart; inside = omega (arith, i.high, l.within, long) }

    pub over_front : (free' : Frees) (tells : Type 0) (bytes : List ℕ) → tells → IsGiven tells free free' (at + size_of (held r)) (old - size_of (held r)) (wrote at (spell (held r)) before) bytes → GoesBack u free free' (at + size_of (held r)) (old - size_of (held r)) (wrote at (spell (held r)) before) bytes → Replaced u first end ps free' at r before bytes
    over_front free' tells bytes t given back =
        let b : TakesBack u first end w.pieces free' lent (at + n) bytes = back.rest first end w.pieces lent w.is rest_block in
        record {
          pieces = b.pieces;
          is = relent u first end b.pieces free' (without lent (at + n)) bytes lent_none b.is;
          records = λ q. elim (cases_eq q (at + n)) [
            | inl e ↦ b.records q ∙ ap (λ (z : Bool). cond z None (record_at first w.pieces q)) (eq-eqb q (at + n) e) ∙ sym (ap (λ (z : Bool). cond z (Some r) (record_at first ps q)) (ne_eqb q at (omega (arith, e, whole.size.some))) ∙ nothing_there q e)
            | inr ne ↦ b.records q ∙ ap (λ (z : Bool). cond z None (record_at first w.pieces q)) (ne_eqb q (at + n) ne) ∙ w.records q
          ];
          front = kept_front;
        }
      where
        lent_none : (q : ℕ) → without lent (at + n) q ≡ none q
        lent_none q = elim (cases_eq q (at + n)) [
          | inl e ↦ without_at lent (at + n) q e
          | inr ne ↦ without_off lent (at + n) q ne ∙ with_off (without none at) (at + n) (old - n) q ne ∙ elim (cases_eq q at) [ inl e ↦ without_at none at q e | inr off ↦ without_off none at q off ]
        ]

        nothing_there : (q : ℕ) → q ≡ at + n → record_at first ps q ≡ None
        nothing_there q e = (inside_none u first end ps free none before block.0 at q l block.1 (omega (arith, e, whole.size.some)) (omega (arith, e, less, block.2))).2

        kept_front : take first bytes ≡ take first before
        kept_front =
            let s = start_low u first end w.pieces free free' lent (at + n) (old - n) given.start given.total (marked (at + n) (old - n) middle) w.is (omega (arith, low)) given.back in
            ap (take first) (given.marked_so t) ∙ front_stays first given.start (free_head given.total) middle s.0 (omega (arith, s.1, high, less, l.within, long)) ∙ front

-- ---- a record that has another value

module _ (h : Head) (end : ℕ) (free free' : Frees) (m : Map) (key : Key) (at : ℕ) (r : Record) (before bytes : List ℕ) (v : IsValid h) (g : HasMap h end free m before) (it : HasHere h g.pieces g.places m key at end before) (o : Replaced (unit h) h.first end g.pieces free' at r before bytes) (wide : r.wide ≡ width h) (hash : r.hash ≡ it.r.hash) (left : r.left ≡ it.r.left) (right : r.right ≡ it.r.right) (its : r.key ≡ key) where
  put_here : record_at h.first o.pieces at ≡ Some r
  put_here = o.records at ∙ ap (λ (b : Bool). cond b (Some r) (record_at h.first g.pieces at)) (eq-eqb at at refl)

  put_off : (q : ℕ) → q ≢ at → record_at h.first o.pieces q ≡ record_at h.first g.pieces q
  put_off q ne = o.records q ∙ ap (λ (b : Bool). cond b (Some r) (record_at h.first g.pieces q)) (ne_eqb q at ne)

  -- what doesn't change where the value does
  same_of : {A : Type 0} (f : Option Record → A) → f (Some r) ≡ f (Some it.r) → (q : ℕ) → f (record_at h.first o.pieces q) ≡ f (record_at h.first g.pieces q)
  same_of f e q = elim (cases_eq q at) [
    | inl is ↦ ap f (ap (record_at h.first o.pieces) is ∙ put_here) ∙ e ∙ sym (ap f (ap (record_at h.first g.pieces) is ∙ it.is))
    | inr ne ↦ ap f (put_off q ne)
  ]

  keys_same : key_of (Some r) ≡ key_of (Some it.r)
  keys_same = λ i. if (hash i == second ((its ∙ sym it.key_is) i)) then Some ((its ∙ sym it.key_is) i) else None

  views_same : view_of h o.pieces bytes ≡ view_of h g.pieces before
  unfolding links_of
  views_same = λ i. record { links = λ c. links c i; keys = λ p. same_of key_of keys_same p i }
    where
      links : (c : Parent) → links_of h o.pieces bytes c ≡ links_of h g.pieces before c
      links (Bucket b) = ap (λ (z : List ℕ). unit h * entry (width h) b z) (array_same h before bytes v o.front)
      links (Left q) = ap (λ (z : ℕ). unit h * z) (same_of left_of left q)
      links (Right q) = ap (λ (z : ℕ). unit h * z) (same_of right_of right q)

  all_placed : (p : ℕ) (s : Record) → record_at h.first o.pieces p ≡ Some s → g.places s.key ≡ Some p
  all_placed p s is = elim (cases_eq p at) [
    | inl e ↦ (let f : Some r ≡ Some s = sym put_here ∙ ap (record_at h.first o.pieces) (sym e) ∙ is in let i : r ≡ s = cc in ap g.places (sym (ap (λ (z : Record). z.key) i) ∙ its) ∙ it.place_is ∙ ap (λ (z : ℕ). Some z) (sym e))
    | inr ne ↦ g.is.hang.all p s (sym (put_off p ne) ∙ is)
  ]

  map_with : IsMapOf (record_at h.first o.pieces) (get (insert m key r.value))
  map_with k val = (there, back)
    where
      n : Map
      n = insert m key r.value

      other : get n k ≡ Some val → k ≢ key → (p : ℕ) × (s : Record) × (record_at h.first o.pieces p ≡ Some s) × (s.key ≡ k) × (s.value ≡ val)
      other e ne =
          let x = (g.is.map k val).0 (sym (insert_other m key r.value k ne) ∙ e) in
          let off : x.0 ≢ at = λ i. (let f : Some x.1 ≡ Some it.r = sym x.2 ∙ ap (record_at h.first g.pieces) i ∙ it.is in let j : x.1 ≡ it.r = cc in ne (sym x.3 ∙ ap (λ (z : Record). z.key) j ∙ it.key_is)) in
          (x.0, x.1, put_off x.0 off ∙ x.2, x.3, x.4)

      there : get n k ≡ Some val → (p : ℕ) × (s : Record) × (record_at h.first o.pieces p ≡ Some s) × (s.key ≡ k) × (s.value ≡ val)
      there e = three (key_cmp k key) (λ t. other e (λ i. (let f : Less ≡ Equal = sym t ∙ ap (λ (z : Key). key_cmp z key) i ∙ same_key key in cc)))
          (λ t. (let i = equal_same k key t in (at, r, put_here, its ∙ sym i, (let f : Some r.value ≡ Some val = sym (insert_here m key r.value) ∙ ap (get n) (sym i) ∙ e in cc))))
          (λ t. other e (λ i. (let f : Greater ≡ Equal = sym t ∙ ap (λ (z : Key). key_cmp z key) i ∙ same_key key in cc)))

      back : (p : ℕ) × (s : Record) × (record_at h.first o.pieces p ≡ Some s) × (s.key ≡ k) × (s.value ≡ val) → get n k ≡ Some val
      back x = elim (cases_eq x.0 at) [
        | inl e ↦ (let f : Some r ≡ Some x.1 = sym put_here ∙ ap (record_at h.first o.pieces) (sym e) ∙ x.2 in let same : r ≡ x.1 = cc in
            let i : k ≡ key = sym x.3 ∙ sym (ap (λ (z : Record). z.key) same) ∙ its in
            ap (get n) i ∙ insert_here m key r.value ∙ ap (λ (z : List ℕ). Some z) (ap (λ (z : Record). z.value) same ∙ x.4))
        | inr ne ↦ (let is : record_at h.first g.pieces x.0 ≡ Some x.1 = sym (put_off x.0 ne) ∙ x.2 in
            let off : k ≢ key = λ i. ne (let f : Some x.0 ≡ Some at = sym (g.is.hang.all x.0 x.1 is) ∙ ap g.places (x.3 ∙ i) ∙ it.place_is in cc) in
            insert_other m key r.value k off ∙ (g.is.map k val).1 (x.0, x.1, is, x.3, x.4))
      ]

  pub over_done : r.pad ≡ replicate (length r.pad) 0 → HoldsWritten h end free' (insert m key r.value) key at (size_of (held r)) bytes
  over_done zeros = record {
    holds = record {
      has = record {
        pieces = o.pieces;
        places = g.places;
        is = record {
          laid = o.is;
          widths = λ q s is. elim (cases_eq q at) [
            | inl e ↦ (let f : Some r ≡ Some s = sym put_here ∙ ap (record_at h.first o.pieces) (sym e) ∙ is in let i : r ≡ s = cc in sym (ap (λ (z : Record). z.wide) i) ∙ wide)
            | inr ne ↦ g.is.widths q s (sym (put_off q ne) ∙ is)
          ];
          hang = record { holds = subst (λ z. Holds z h.buckets g.places) (sym views_same) g.is.hang.holds; all = all_placed };
          map = map_with;
        };
        short = g.short;
      };
      r = r;
      there = put_here;
      key_is = its;
      size_is = refl;
    };
    padded = zeros;
  }
