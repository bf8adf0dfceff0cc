-- A packed file that is settled, by the file that it was.
use Rattle.std.proofs.Common.{◌≡◌, ◌∙◌, inl, inr, ⊎_elim, ℕ, ◌≤◌, List, length, take, None, Some, refl, sym, subst, arith}
use Rattle.std.specs.FinMap.{get}
use Rattle.tc_base.specs.Maps.{Map}
use Rattle.tc_base.specs.declared.kind.Form.{Form}
use Rattle.tc_space.specs.Changes.{same}
use Rattle.tc_space.specs.Frames.{In, Writes}
use Rattle.tc_space.specs.Stores.{Only, PacksIn, TightIn}
use Rattle.tc_space.specs.declared.space.Space.{Ghosts}
use Rattle.hf_head.specs.declared.head.Head.{Head}
use Rattle.hf_head.specs.Heads.{head_in, unit}
use Rattle.hf_block.specs.Pieces.{AreBlocks}
use Rattle.hf_block.specs.Walks.{between}
use Rattle.hf_layout.specs.Frees.{Frees}
use Rattle.hf_pack.specs.Moving.{moved}
use Rattle.hf_pool.specs.Pools.{frees}
use Rattle.hf_pool.specs.Trims.{Row, Trimmed, row_block, row_end}
use Rattle.hf_tree.specs.Standing.{StandsFor}
use Rattle.hf_record.specs.Holding.{Has}
use Rattle.tc_hash.specs.declared.hash.Hash.{Hash}
use Rattle.tc_hash.specs.Keeping.{file_of, holds}
use Rattle.tc_hash.specs.Packing.{Enlarges, MovesRecords, PacksAs}
use Rattle.tc_hash.specs.Repacking.{EnlargesFrom, FillsFrom, IsPackedFrom, IsTightFrom, MovesFrom, WasPacked}
use Rattle.tc_hash.specs.Settling.{ChangesFront, IsBrought, Settles}
use Rattle.tc_hash.proofs.Fronted.{numbers_now}
use Rattle.tc_hash.proofs.OneMap.{one_of}
use Rattle.tc_hash.proofs.Tight.{packed_of, tight_of, tight_trimmed}

-- where no block is free none is dropped
same_end : (frees : Frees) (a b : ℕ) → ((q : ℕ) → frees q ≡ None) → Row frees a b → a ≡ b
same_end frees a b nothing (row_end _) = refl
same_end frees a b nothing (row_block _ size _ there rest) = absurd (let never : None ≡ Some size = sym (nothing a) ∙ there in cc)

-- the blocks stay
moves_on : (h : Head) (end : ℕ) (from old new : List ℕ) → end ≤ length new → between h.first end new ≡ between h.first end old → MovesFrom h end from old → MovesFrom h end from new
moves_on h end from old new within blocks moves =
    let fills = moves.fills in record {
      pieces = moves.pieces;
      was = moves.was;
      fills = record {
        links = fills.links;
        blocks = record {
          on = fills.blocks.on;
          within = within;
          filled = subst (λ (bytes : List ℕ). AreBlocks (unit h) bytes (moved fills.links moves.pieces)) (sym blocks) fills.blocks.filled;
          widths = fills.blocks.widths;
        };
        ends = fills.ends;
      };
    }

enlarges_on : (f : Form) (h : Head) (end : ℕ) (stands stands' : Map → Type 0) (from : List ℕ) → ((m : Map) → stands m → stands' m) → EnlargesFrom f h end stands from → EnlargesFrom f h end stands' from
enlarges_on f h end stands stands' from on anew = record {
  asked = anew.asked;
  own = anew.own;
  was = anew.was;
  small = anew.small;
  is_new = anew.is_new;
  map = anew.map;
  pool = anew.pool;
  had = anew.had;
  stand = on anew.map anew.stand;
  fills = anew.fills;
}

fills_on : (f : Form) (h : Head) (end : ℕ) (stands stands' : Map → Type 0) (from old new : List ℕ) → end ≤ length new → between h.first end new ≡ between h.first end old → ((m : Map) → stands m → stands' m) → FillsFrom f h end stands from old → FillsFrom f h end stands' from new
fills_on f h end stands stands' from old new within blocks on fills = ⊎_elim
    (λ (moves : MovesFrom h end from old). inl (moves_on h end from old new within blocks moves))
    (λ (anew : EnlargesFrom f h end stands from). inr (enlarges_on f h end stands stands' from on anew))
    fills

not_past : (long end : ℕ) → long ≡ end → end ≤ long
not_past long end e = omega (arith, e)

-- what was packed is so once it was brought to the file
tight_still : {S : Type 0} (v h : Hash S) (f : Form) (from old new : List ℕ) (m : Map) → h.body.head ≡ v.body.head → Trimmed (frees v.body.pool) (frees h.body.pool) v.body.pool.size h.body.pool.size
    → IsBrought h m new → ChangesFront v.body.head h.body.pool.size old new → holds v old m → IsTightFrom from f v.body old → IsTightFrom from f h.body new
tight_still v h f from old new m head trimmed brought front held tight =
    let x : Head = v.body.head in
    let n : ℕ = v.body.pool.size in
    let same_size : h.body.pool.size ≡ n = same_end (frees v.body.pool) h.body.pool.size n tight.tight.nothing trimmed.row in
    let blocks : between x.first n new ≡ between x.first n old = subst (λ (k : ℕ). between x.first k new ≡ between x.first k old) same_size front.blocks in
    let fills : FillsFrom f x n (λ k. Has h.body new k) from new = fills_on f x n (λ k. Has v.body old k) (λ k. Has h.body new k) from old new (not_past (length new) n (front.long ∙ same_size)) blocks
    (λ k has. subst (λ (y : Map). Has h.body new y) (one_of x n (frees v.body.pool) old m k held.map.has has) brought.holds.has) tight.fills in
    record {
      tight = tight_trimmed v.body h.body head trimmed f tight.tight;
      fills = subst (λ (y : Head). FillsFrom f y h.body.pool.size (λ k. Has h.body new k) from new) (sym head) (subst (λ (end : ℕ). FillsFrom f x end (λ k. Has h.body new k) from new) (sym same_size) fills);
    }

-- and then its file is packed
packed_still : {S : Type 0} (h : Hash S) (f : Form) (from new : List ℕ) (m : Map) → IsBrought h m new → length new ≡ h.body.pool.size → IsTightFrom from f h.body new → IsPackedFrom from f new
packed_still h f from new m brought long tight =
    let x : Head = h.body.head in
    let n : ℕ = h.body.pool.size in
    record {
      packed = packed_of f x n (frees h.body.pool) h.records h.region m new brought long tight.tight.nothing tight.tight.large;
      head = x;
      numbers = numbers_now x (head_in (take 256 new)) h.records n h.region brought.head;
      fills = subst (λ (end : ℕ). FillsFrom f x end (λ y. StandsFor x.kind new (get y)) from new) (sym long)
          (fills_on f x n (λ k. Has h.body new k) (λ y. StandsFor x.kind new (get y)) from new new (not_past (length new) n long) refl
          (λ k has. subst (λ (y : Map). StandsFor x.kind new (get y)) (one_of x n (frees h.body.pool) new m k brought.holds.has has) brought.stands.is) tight.fills);
    }

module _ {S : Type 0} (s : Ghosts S) where
  -- by the file that it was
  pub packed_tight : (f : Form) (v v' : Hash S) (a b : S) → Writes s (Only (file_of v)) (In s file_of holds) same v v' a b → v'.body.file ≡ v.body.file → PacksAs f s v v' a b → TightIn s file_of holds WasPacked f v v' a b
  packed_tight f v v' a b writes file packs m w =
      let old : List ℕ = s.now a v.body.file in
      let new : List ℕ = s.now b v.body.file in
      let held : holds v' new m = subst (λ (n : ℕ). holds v' (s.now b n) m) file (writes.means m w).1 in
      let has = w.1.map.has in
      record {
        tight = tight_of f v v' packs.packs;
        fills = ⊎_elim
            (λ (moves : MovesRecords s v v' a b). inl (subst (λ (x : Head). MovesFrom x v'.body.pool.size old new) (sym moves.head) (record {
              pieces = has.pieces;
              was = record { numbers = w.1.numbers; end = v.body.pool.size; blocks = record { on = has.is.laid.on; within = has.is.laid.within; filled = has.is.laid.filled; widths = has.is.widths } };
              fills = moves.blocks m w;
            })))
            (λ (anew : Enlarges f s v v' a b). inr (record {
              asked = anew.asked;
              own = v.body.head;
              was = w.1.numbers;
              small = anew.small;
              is_new = anew.writes.is_new;
              map = m;
              pool = v.body.pool;
              had = has;
              stand = held.map.has;
              fills = anew.writes.fills m w;
            }))
            packs.fills;
      }

  -- where it was packed the file is
  pub settled_packs : (v v' : Hash S) (a b : S) → v'.body.head ≡ v.body.head → Trimmed (frees v.body.pool) (frees v'.body.pool) v.body.pool.size v'.body.pool.size → Settles s v v' a b → PacksIn s file_of holds WasPacked IsPackedFrom v a b
  settled_packs v v' a b head trimmed done from form m tight w =
      let new : List ℕ = s.now b v.body.file in
      let brought : IsBrought v' m new = done.brought w.0 m w.1 in
      let front = done.front w.0 in
      packed_still v' form from new m brought front.long (tight_still v v' form from (s.now a v.body.file) new m head trimmed brought front w.1 tight)
