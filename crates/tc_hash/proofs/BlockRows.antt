-- The blocks of a list, read one by one.
use Rattle.std.proofs.Common.{◌≡◌, ◌∙◌, ℕ, suc, ◌+◌, ◌≤◌, List, [], ◌∷◌, ◌++◌, length, refl, sym, ap, subst, arith, Some, None, true, false, append_assoc, append-nil, length-append}
use Rattle.std.specs.Prelude.{slice_get}
use Rattle.hf_head.specs.declared.head.Head.{Head}
use Rattle.hf_block.specs.declared.block.BlockAt.{BlockAt}
use Rattle.hf_block.specs.Pieces.{Piece, Record, held, free, size_of, is_free, AllWhole, placed}
use Rattle.hf_layout.specs.Layout.{record_of, record_at}
use Rattle.hf_layout.proofs.Places.{here, long, long-cons, whole_parts, in_back}
use Rattle.hf_survey.specs.declared.facts.Fact.{Fact}
use Rattle.hf_survey.specs.Facts.{fact_of, facts_of}
use Rattle.hf_survey.proofs.FactRows.{facts-append}

module _ (h : Head) where
  -- so many blocks were read
  pub record ReadSo (ps : List Piece) (i : ℕ) (facts : List Fact) : Type 0 where
    pub front : List Piece
    pub back : List Piece
    pub is : ps ≡ front ++ back
    pub count : length front ≡ i
    pub facts_are : facts ≡ facts_of h h.first front

  pub read_start : (ps : List Piece) (facts : List Fact) → facts ≡ [] → ReadSo ps 0 facts
  read_start ps facts e = record { front = []; back = ps; is = refl; count = refl; facts_are = e }

  -- the next block
  record Next (at : ℕ) (front back : List Piece) (b : BlockAt) : Type 0 where
    piece : Piece
    rest : List Piece
    is : back ≡ piece ∷ rest
    place : b.place ≡ at + long front
    kind : b.free ≡ is_free piece

  next : (at : ℕ) (front back : List Piece) (b : BlockAt) → slice_get (placed at (front ++ back)) (length front) ≡ Some b → Next at front back b
  next at [] [] b e = absurd (let f : None ≡ Some b = e in cc)
  next at [] (p ∷ ps) b e =
      let f : ◌≡◌ {A = BlockAt} (record { place = at; size = size_of p; free = is_free p }) b = (let g : ◌≡◌ (Some (record { place = at; size = size_of p; free = is_free p })) (Some b) = e in cc) in
      record { piece = p; rest = ps; is = refl; place = sym (ap (λ (z : BlockAt). z.place) f) ∙ omega arith; kind = sym (ap (λ (z : BlockAt). z.free) f) }
  next at (q ∷ front) back b e =
      let w = next (at + size_of q) front back b e in
      record { piece = w.piece; rest = w.rest; is = w.is; place = omega (arith, w.place, long-cons q front); kind = w.kind }

  next_of : (ps : List Piece) (blocks : List BlockAt) (i : ℕ) (facts : List Fact) (b : BlockAt) (s : ReadSo ps i facts) → blocks ≡ placed h.first ps → slice_get blocks i ≡ Some b → Next h.first s.front s.back b
  next_of ps blocks i facts b s listed at = next h.first s.front s.back b ((λ j. slice_get (placed h.first (sym s.is j)) (s.count j)) ∙ ap (λ (z : List BlockAt). slice_get z i) (sym listed) ∙ at)

  on : (ps : List Piece) (i : ℕ) (facts new : List Fact) (s : ReadSo ps i facts) (p : Piece) (rest : List Piece) → s.back ≡ p ∷ rest → new ≡ facts ++ facts_of h (h.first + long s.front) (p ∷ []) → ReadSo ps (i + 1) new
  on ps i facts new s p rest e grown = record {
    front = s.front ++ p ∷ [];
    back = rest;
    is = s.is ∙ ap (λ l. s.front ++ l) e ∙ sym (append_assoc s.front (p ∷ []) rest);
    count = omega (arith, length-append s.front (p ∷ []), s.count);
    facts_are = grown ∙ ap (λ l. l ++ facts_of h (h.first + long s.front) (p ∷ [])) s.facts_are ∙ sym (facts-append h h.first s.front (p ∷ []));
  }

  pub read_free : (ps : List Piece) (blocks : List BlockAt) (i : ℕ) (facts : List Fact) (b : BlockAt) → ReadSo ps i facts → blocks ≡ placed h.first ps → slice_get blocks i ≡ Some b → b.free ≡ true → ReadSo ps (i + 1) facts
  read_free ps blocks i facts b s listed at kind = let w = next_of ps blocks i facts b s listed at in go w.piece w.rest w.is (sym w.kind ∙ kind)
    where
      go : (p : Piece) (rest : List Piece) → s.back ≡ p ∷ rest → is_free p ≡ true → ReadSo ps (i + 1) facts
      go (held r) rest e k = absurd (let f : false ≡ true = k in cc)
      go (free size tail) rest e k = on ps i facts facts s (free size tail) rest e (sym (append-nil facts))

  -- a record is read
  pub record Held_ (ps : List Piece) (i : ℕ) (facts : List Fact) (b : BlockAt) : Type 0 where
    pub r : Record
    pub at : record_at h.first ps b.place ≡ Some r
    pub more : (new : List Fact) → new ≡ facts ++ fact_of h b.place r ∷ [] → ReadSo ps (i + 1) new

  pub read_held : (ps : List Piece) (blocks : List BlockAt) (i : ℕ) (facts : List Fact) (b : BlockAt) (u : ℕ) → AllWhole u ps → ReadSo ps i facts → blocks ≡ placed h.first ps → slice_get blocks i ≡ Some b → b.free ≡ false → Held_ ps i facts b
  read_held ps blocks i facts b u whole s listed at kind = let w = next_of ps blocks i facts b s listed at in go w.piece w.rest w.is (sym w.kind ∙ kind) w.place
    where
      go : (p : Piece) (rest : List Piece) → s.back ≡ p ∷ rest → is_free p ≡ false → b.place ≡ h.first + long s.front → Held_ ps i facts b
      go (free size tail) rest e k place = absurd (let f : true ≡ false = k in cc)
      go (held r) rest e k place =
          let all : ps ≡ s.front ++ (held r ∷ rest) = s.is ∙ ap (λ l. s.front ++ l) e in
          let front = (whole_parts u s.front (held r ∷ rest) (subst (λ l. AllWhole u l) all whole)).0 in
          record {
            r = r;
            at = ap (λ l. record_at h.first l b.place) all ∙ ap record_of (in_back u h.first s.front (held r ∷ rest) b.place front (omega (arith, place)) ∙ here (h.first + long s.front) (held r) rest b.place place);
            more = λ new grown. on ps i facts new s (held r) rest e (grown ∙ ap (λ n. facts ++ fact_of h n r ∷ []) place);
          }

  pub read_all : (ps : List Piece) (blocks : List BlockAt) (i : ℕ) (facts : List Fact) → ReadSo ps i facts → blocks ≡ placed h.first ps → length blocks ≤ i → facts ≡ facts_of h h.first ps
  read_all ps blocks i facts s listed far = s.facts_are ∙ ap (λ l. facts_of h h.first l) (sym (append-nil s.front) ∙ ap (λ l. s.front ++ l) (sym (none s.back short)) ∙ sym s.is)
    where
      placed_long : (at : ℕ) (ps : List Piece) → length (placed at ps) ≡ length ps
      placed_long at [] = refl
      placed_long at (p ∷ ps) = ap suc (placed_long (at + size_of p) ps)

      short : length s.back ≡ 0
      short = omega (arith, far, ap length listed, placed_long h.first ps, ap length s.is, length-append s.front s.back, s.count)

      none : (l : List Piece) → length l ≡ 0 → l ≡ []
      none [] e = refl
      none (p ∷ l) e = absurd (omega (arith, e))
