-- The blocks of a file, passed one after the other.
use Rattle.std.proofs.Common.{◌≡◌, ◌∙◌, ℕ, zero, suc, ◌+◌, ◌-◌, ◌%◌, ◌^◌, ◌<◌, ◌≤◌, Bool, true, false, Option, Some, None, List, [], ◌∷◌, ◌++◌, length, take, drop, refl, sym, ap, subst, arith, lit<, append_assoc, append-nil, length-drop}
use Rattle.std.specs.Prelude.{slice_get}
use Rattle.std.proofs.lemmas.List.{drop-drop, length-take-le, take-append-drop, take_all}
use Rattle.std.proofs.Math.Nat.{mod-add-mod, pow-le-pow_right}
use Rattle.std.proofs.Math.Seq.{take-add}
use Rattle.hf_head.specs.declared.head.Head.{Head}
use Rattle.hf_head.specs.Heads.{IsValid, unit, is_large, wide}
use Rattle.hf_block.specs.declared.block.Block.{Block}
use Rattle.hf_block.specs.declared.block.BlockAt.{BlockAt}
use Rattle.hf_block.specs.Pieces.{Record, Piece, held, free, spell, size_of, is_free, IsSize, IsWhole, HasWidth, IsFilled, placed}
use Rattle.hf_block.specs.Rows.{StandApart, HaveSameFree, IsListed}
use Rattle.hf_block.specs.Walks.{HasNext, between, block_of, is_free_block}
use Rattle.hf_block.proofs.Listing.{whole-append, widths-append, spell-append, between_long, between_part}
use Rattle.hf_layout.proofs.Chains.{listed_have_width}
use Rattle.hf_layout.proofs.Places.{long, long-cons}
use Rattle.hf_tree.specs.Links.{width}
use Rattle.hf_survey.specs.declared.facts.Fact.{Fact}
use Rattle.hf_chain.specs.declared.heads.RecHead.{RecHead}
use Rattle.hf_survey.specs.declared.surveying.Survey.{Survey}
use Rattle.hf_chain.specs.Heads.{HasRecord, head_of}
use Rattle.hf_survey.specs.Facts.{fact_of, facts_of}
use Rattle.hf_survey.specs.Surveys.{Passed, Stand, WasSurveyed, WentOn, free_blocks}
use Rattle.hf_survey.proofs.FactRows.{facts-append}
use Rattle.hf_chain.proofs.Fronts.{key_at}
use Rattle.hf_chain.proofs.Pieces.{piece_of}

-- ---- several blocks

free-append : (at : ℕ) (xs ys : List Piece) → free_blocks at (xs ++ ys) ≡ free_blocks at xs ++ free_blocks (at + long xs) ys
free-append at [] ys = ap (λ n. free_blocks n ys) (omega arith)
free-append at (held r ∷ xs) ys = free-append (at + size_of (held r)) xs ys ∙ ap (λ n. free_blocks (at + size_of (held r)) xs ++ free_blocks n ys) (omega (arith, long-cons (held r) xs))
free-append at (free size tail ∷ xs) ys = let e = free-append (at + size_of (free size tail)) xs ys in ap (λ (l : List BlockAt). record { place = at; size = size_of (free size tail); free = true } ∷ l) (e ∙ ap (λ n. free_blocks (at + size_of (free size tail)) xs ++ free_blocks n ys) (omega (arith, long-cons (free size tail) xs)))

pub passed_none : (h : Head) (at : ℕ) (bytes : List ℕ) (s : Survey) → Passed h at at bytes s s
passed_none h at bytes s =
    let z : at - at ≡ 0 = omega arith in
    record {
      pieces = [];
      whole = tt;
      widths = tt;
      is = rw z refl;
      facts = sym (append-nil s.facts);
      frees = sym (append-nil s.frees);
      on = omega arith;
      within = omega arith;
      rest = λ ps filled. (ps, rw z filled);
    }

pub passed_start : (h : Head) (at : ℕ) (bytes : List ℕ) (s : Survey) → s.facts ≡ [] → s.frees ≡ [] → Passed h at at bytes (record { facts = []; frees = [] }) s
passed_start h at bytes s no_facts no_frees =
    let z : at - at ≡ 0 = omega arith in
    record { pieces = []; whole = tt; widths = tt; is = rw z refl; facts = no_facts; frees = no_frees; on = omega arith; within = omega arith; rest = λ ps filled. (ps, rw z filled) }

pub passed_then : (h : Head) (at mid next : ℕ) (bytes : List ℕ) (old half new : Survey) → Passed h at mid bytes old half → Passed h mid next (drop (mid - at) bytes) half new → Passed h at next bytes old new
passed_then h at mid next bytes old half new a b =
    let sum : next - at ≡ (mid - at) + (next - mid) = omega (arith, a.on, b.on) in
    let size : long a.pieces ≡ mid - at = sym (ap length a.is) ∙ length-take-le (mid - at) bytes a.within in
    let place : at + long a.pieces ≡ mid = omega (arith, size, a.on) in
    record {
      pieces = a.pieces ++ b.pieces;
      whole = whole-append (unit h) a.pieces b.pieces a.whole b.whole;
      widths = widths-append (width h) a.pieces b.pieces a.widths b.widths;
      is = rw (sum, take-add (mid - at) (next - mid) bytes, a.is, b.is) (sym (spell-append a.pieces b.pieces));
      facts = b.facts ∙ ap (λ (l : List Fact). l ++ facts_of h mid b.pieces) a.facts ∙ append_assoc old.facts (facts_of h at a.pieces) (facts_of h mid b.pieces)
          ∙ ap (λ (l : List Fact). old.facts ++ l) (sym (facts-append h at a.pieces b.pieces ∙ ap (λ (n : ℕ). facts_of h at a.pieces ++ facts_of h n b.pieces) place));
      frees = b.frees ∙ ap (λ (l : List BlockAt). l ++ free_blocks mid b.pieces) a.frees ∙ append_assoc old.frees (free_blocks at a.pieces) (free_blocks mid b.pieces)
          ∙ ap (λ (l : List BlockAt). old.frees ++ l) (sym (free-append at a.pieces b.pieces ∙ ap (λ (n : ℕ). free_blocks at a.pieces ++ free_blocks n b.pieces) place));
      on = omega (arith, a.on, b.on);
      within = omega (arith, a.on, b.on, a.within, b.within, length-drop (mid - at) bytes);
      rest = λ ps filled.
          let q = a.rest ps filled in
          let r = b.rest q.0 q.1 in
          (r.0, subst (λ (l : List ℕ). IsFilled (width h) (unit h) l r.0) (drop-drop (next - mid) (mid - at) bytes ∙ ap (λ (n : ℕ). drop n bytes) (sym sum)) r.1);
    }

-- ---- one block

module _ (h : Head) (at n : ℕ) (b : Block) (bytes : List ℕ) (x : HasNext (width h) (unit h) n b bytes) (le : n ≤ length bytes) (old new : Survey) where
  passed_one : new.facts ≡ old.facts ++ facts_of h at (x.next.piece ∷ []) → new.frees ≡ old.frees ++ free_blocks at (x.next.piece ∷ []) → Passed h at (at + n) bytes old new
  passed_one facts frees =
      let e : at + n - at ≡ n = omega arith in
      record {
        pieces = x.next.piece ∷ [];
        whole = (x.next.whole, tt);
        widths = (x.next.width, tt);
        is = rw e (x.next.is ∙ sym (append-nil (spell x.next.piece)));
        facts = facts;
        frees = frees;
        on = omega arith;
        within = omega (arith, le);
        rest = λ ps filled. rw e (x.next.rest ps filled);
      }

  pub passed_free : is_free_block b ≡ true → new.facts ≡ old.facts → new.frees ≡ old.frees ++ record { place = at; size = n; free = true } ∷ [] → Passed h at (at + n) bytes old new
  passed_free kind facts frees =
      let a = alone x.next.piece (x.next.kind ∙ kind) x.next.size in
      passed_one (facts ∙ sym (append-nil old.facts) ∙ ap (λ (l : List Fact). old.facts ++ l) (sym a.0)) (frees ∙ ap (λ (l : List BlockAt). old.frees ++ l) (sym a.1))
    where
      one : ℕ → List BlockAt
      one m = record { place = at; size = m; free = true } ∷ []

      alone : (p : Piece) → is_free p ≡ true → size_of p ≡ n → (facts_of h at (p ∷ []) ≡ []) × (free_blocks at (p ∷ []) ≡ record { place = at; size = n; free = true } ∷ [])
      alone (held r) k e = absurd (let f : false ≡ true = k in cc)
      alone (free size tail) k e = (refl, ap one e)

  -- the record whose head was read
  pub record Read : Type 0 where
    pub r : Record
    pub piece : x.next.piece ≡ held r
    pub head : b ≡ block_of (held r)
    pub has : HasRecord h r 0 bytes

  pub read : is_free_block b ≡ false → Read
  read kind = go x.next.piece refl (x.next.kind ∙ kind)
    where
      go : (p : Piece) → x.next.piece ≡ p → is_free p ≡ false → Read
      go (free size tail) e k = absurd (let f : true ≡ false = k in cc)
      go (held r) e k = record {
        r = r;
        piece = e;
        head = x.head ∙ ap block_of e;
        has = record {
          is = record {
            rest = drop n bytes;
            is = sym (take-append-drop n bytes) ∙ ap (λ (l : List ℕ). l ++ drop n bytes) (x.next.is ∙ ap spell e);
            whole = subst (λ (p : Piece). IsWhole (unit h) p) e x.next.whole;
          };
          wide = subst (λ (p : Piece). HasWidth (width h) p) e x.next.width;
        };
      }

  pub passed_held : (w : Read) (f : Fact) → f ≡ fact_of h at w.r → new.facts ≡ old.facts ++ f ∷ [] → new.frees ≡ old.frees → Passed h at (at + n) bytes old new
  passed_held w f is facts frees = passed_one
      (facts ∙ ap (λ (z : Fact). old.facts ++ z ∷ []) is ∙ ap (λ (p : Piece). old.facts ++ facts_of h at (p ∷ [])) (sym w.piece))
      (frees ∙ sym (append-nil old.frees) ∙ ap (λ (p : Piece). old.frees ++ free_blocks at (p ∷ [])) (sym w.piece))

-- the key that stands behind a record's head, in its first bytes
pub key_near : (h : Head) (r : Record) (rec : RecHead) (front bytes key : List ℕ) → HasRecord h r 0 bytes → rec ≡ head_of r → front ≡ take (length front) bytes → rec.head + rec.key ≤ length front → key ≡ take rec.key (drop rec.head front) → key ≡ r.key
key_near h r rec front bytes key has head part inside is =
    is ∙ ap (λ (l : List ℕ). take rec.key (drop rec.head l)) part ∙ piece_of (length front) 0 rec.head rec.key bytes inside
    ∙ (λ i. take (head i).key (drop (0 + (head i).head) bytes)) ∙ key_at (unit h) r 0 bytes has.is

-- the record at the front of a part of a file stands in the file
pub record_there : (h : Head) (r : Record) (place end : ℕ) (file : List ℕ) → HasRecord h r 0 (between place end file) → HasRecord h r place file
record_there h r place end file has =
    let tail : List ℕ = drop (end - place) (drop place file) in
    record {
      is = record {
        rest = has.is.rest ++ tail;
        is = sym (take-append-drop (end - place) (drop place file)) ∙ ap (λ (l : List ℕ). l ++ tail) has.is.is ∙ append_assoc (spell (held r)) has.is.rest tail;
        whole = has.is.whole;
      };
      wide = has.wide;
    }

-- ---- free blocks apart

next_aligned : (u a b : ℕ) → a % u ≡ 0 → b % u ≡ 0 → (a + b) % u ≡ 0
next_aligned u a b x y = sym (mod-add-mod a u b) ∙ ap (λ (n : ℕ). (n + b) % u) x ∙ ap (λ (n : ℕ). n % u) (omega arith) ∙ y

apart_on : (u first at next : ℕ) (bs : List BlockAt) → at ≤ next → StandApart u first at bs → StandApart u first next bs
apart_on u first at next [] le h = omega (arith, le, h)
apart_on u first at next (b ∷ bs) le h = (h.0, h.1, h.2, apart_on u (b.place + b.size) at next bs le h.3)

apart_more : (u first at : ℕ) (b : BlockAt) (bs : List BlockAt) → b.place ≡ at → at % u ≡ 0 → IsSize u b.size → StandApart u first at bs → StandApart u first (at + b.size) (bs ++ b ∷ [])
apart_more u first at b [] place aligned is h = (omega (arith, place, h), subst (λ (n : ℕ). n % u ≡ 0) (sym place) aligned, is, omega (arith, place))
apart_more u first at b (c ∷ bs) place aligned is h = (h.0, h.1, h.2, apart_more u (c.place + c.size) at b bs place aligned is h.3)

pub stand_held : (h : Head) (at n : ℕ) (old new : Survey) → new.frees ≡ old.frees → IsSize (unit h) n → Stand h at old → Stand h (at + n) new
stand_held h at n old new same is s = record { aligned = next_aligned (unit h) at n s.aligned is.aligned; apart = subst (λ (l : List BlockAt). StandApart (unit h) h.first (at + n) l) (sym same) (apart_on (unit h) h.first at (at + n) old.frees (omega arith) s.apart) }

pub stand_free : (h : Head) (at n : ℕ) (old new : Survey) → new.frees ≡ old.frees ++ record { place = at; size = n; free = true } ∷ [] → IsSize (unit h) n → Stand h at old → Stand h (at + n) new
stand_free h at n old new grown is s = record { aligned = next_aligned (unit h) at n s.aligned is.aligned; apart = subst (λ (l : List BlockAt). StandApart (unit h) h.first (at + n) l) (sym grown) (apart_more (unit h) h.first at (record { place = at; size = n; free = true }) old.frees refl s.aligned is s.apart) }

-- nothing was found before the first block
pub stand_none : (h : Head) (s : Survey) → IsValid h → s.frees ≡ [] → Stand h h.first s
stand_none h s v none = record { aligned = v.numbers.first_aligned; apart = subst (λ (l : List BlockAt). StandApart (unit h) h.first h.first l) (sym none) (omega arith) }

-- ---- all blocks

pub all_passed : (h : Head) (bytes : List ℕ) (old new : Survey) → IsValid h → h.size ≤ length bytes → old.facts ≡ [] → old.frees ≡ [] → Passed h h.first h.size (between h.first h.size bytes) old new → WasSurveyed h bytes new
all_passed h bytes old new v inside no_facts no_frees p =
    let file : List ℕ = between h.first h.size bytes in
    let all : take (h.size - h.first) file ≡ file = take_all (h.size - h.first) file (let l = between_long h.first h.size bytes v.numbers.size_least inside in omega (arith, l, v.numbers.size_least)) in
    record {
      pieces = p.pieces;
      is = record {
        facts = record {
          has = record { on = v.numbers.size_least; within = inside; filled = record { whole = p.whole; is = sym all ∙ p.is }; widths = listed_have_width (width h) h.first p.pieces p.widths };
          is = p.facts ∙ ap (λ (l : List Fact). l ++ facts_of h h.first p.pieces) no_facts;
        };
        frees = p.frees ∙ ap (λ (l : List BlockAt). l ++ free_blocks h.first p.pieces) no_frees;
      };
    }

-- the free blocks alone are listed as those among all blocks are
pub same_listed : (at : ℕ) (ps : List Piece) → HaveSameFree (free_blocks at ps) (placed at ps)
same_listed at ps q t = (λ k. onto at ps k.0 k.1, λ k. from at ps k.0 k.1)
  where
    kind : Option BlockAt → Bool
    kind None = true
    kind (Some b) = b.free

    differ : false ≡ true → ⊥
    differ e = absurd cc

    onto : (at : ℕ) (ps : List Piece) (k : ℕ) → slice_get (free_blocks at ps) k ≡ Some (record { place = q; size = t; free = true }) → IsListed (placed at ps) q t
    onto at [] k e = absurd (let f : None ≡ Some (record { place = q; size = t; free = true }) = e in cc)
    onto at (held r ∷ ps) k e = let w = onto (at + size_of (held r)) ps k e in (suc w.0, w.1)
    onto at (free size tail ∷ ps) zero e = (0, e)
    onto at (free size tail ∷ ps) (suc k) e = let w = onto (at + size_of (free size tail)) ps k e in (suc w.0, w.1)

    from : (at : ℕ) (ps : List Piece) (k : ℕ) → slice_get (placed at ps) k ≡ Some (record { place = q; size = t; free = true }) → IsListed (free_blocks at ps) q t
    from at [] k e = absurd (let f : None ≡ Some (record { place = q; size = t; free = true }) = e in cc)
    from at (held r ∷ ps) zero e = absurd (differ (ap kind e))
    from at (held r ∷ ps) (suc k) e = from (at + size_of (held r)) ps k e
    from at (free size tail ∷ ps) zero e = (0, e)
    from at (free size tail ∷ ps) (suc k) e = let w = from (at + size_of (free size tail)) ps k e in (suc w.0, w.1)

-- ---- of a head by its parts

pub next_of : (h : Head) (u n : ℕ) (large : Bool) (b : Block) (bytes : List ℕ) → u ≡ unit h → large ≡ is_large h → HasNext (wide large) u n b bytes → HasNext (width h) (unit h) n b bytes
next_of h u n large b bytes e f x = subst (λ (z : Bool). HasNext (wide z) (unit h) n b bytes) f (subst (λ (z : ℕ). HasNext (wide large) z n b bytes) e x)

pub filled_of : (h : Head) (u : ℕ) (large : Bool) (bytes : List ℕ) (ps : List Piece) → u ≡ unit h → large ≡ is_large h → IsFilled (width h) (unit h) bytes ps → IsFilled (wide large) u bytes ps
filled_of h u large bytes ps e f x = subst (λ (z : ℕ). IsFilled (wide large) z bytes ps) (sym e) (subst (λ (z : Bool). IsFilled (wide z) (unit h) bytes ps) (sym f) x)

pub unit_least : (h : Head) (u : ℕ) → IsValid h → u ≡ unit h → 5 ≤ u
unit_least h u v e = let p : 2 ^ 4 ≤ 2 ^ h.apow = pow-le-pow_right (lit< tt) v.powers.0 in omega (arith, p, e)

-- ---- of a part of a file that was read

-- bytes that were read from a place on are the first of those up to an end
pub front_is : (at end count : ℕ) (file front : List ℕ) → at + count ≤ end → length front ≡ count → front ≡ take count (drop at file) → front ≡ take (length front) (between at end file)
front_is at end count file front within size is = between_part at end count file front within size is

pub went_on : (tells : Type 0) (h : Head) (at next : ℕ) (file : List ℕ) (old new : Survey) → at < next → next ≤ h.size → (Stand h at old → Stand h next new) → (tells → Passed h at next (between at h.size file) old new) → WentOn tells h at next file old new
went_on tells h at next file old new on within stand passed = record { on = on; within = within; stand = stand; passed = passed }

-- nothing was passed before
pub went_after : (tells : Type 0) (h : Head) (at same next : ℕ) (old_file file : List ℕ) (old mid new : Survey) → same ≡ at → (tells → file ≡ old_file) → (Stand h at old → Stand h same mid) → (tells → Passed h at same (between at h.size old_file) old mid) → WentOn tells h at next file mid new → WentOn tells h at next old_file old new
went_after tells h at same next old_file file old mid new e files stand passed x = record {
  on = x.on;
  within = x.within;
  stand = λ s. x.stand (subst (λ (n : ℕ). Stand h n mid) e (stand s));
  passed = λ t.
      let bytes : List ℕ = between at h.size old_file in
      let z : at - at ≡ 0 = omega arith in
      passed_then h at at next bytes old mid new (subst (λ (n : ℕ). Passed h at n bytes old mid) e (passed t)) (rw z (subst (λ (l : List ℕ). Passed h at next (between at h.size l) mid new) (files t) (x.passed t)));
}
