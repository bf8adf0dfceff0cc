-- Free neighbours joined, and a free block parted.
use Rattle.std.proofs.Common.{◌≡◌, ◌≢◌, ◌∙◌, ◌⊎◌, inl, inr, ℕ, ◌+◌, ◌-◌, ◌%◌, ◌^◌, ◌<◌, ◌≤◌, Bool, cond, List, [], ◌∷◌, ◌++◌, length, take, drop, Option, Some, None, refl, sym, ap, subst, arith, append_assoc, length-drop}
use Rattle.std.specs.Prelude.{◌==◌, if◌then◌else◌}
use Rattle.std.proofs.lemmas.Bool.{cases_eq, cases_lt, eq-eqb, ne_eqb}
use Rattle.tc_base.specs.Files.{wrote}
use Rattle.hf_block.specs.Heads.{free_head}
use Rattle.hf_block.specs.Walks.{between}
use Rattle.hf_block.specs.Pieces.{Piece, held, free, size_of, AllWhole, spell_all, AreBlocks}
use Rattle.hf_layout.specs.Frees.{Frees, IsThere, with_block, without}
use Rattle.hf_layout.specs.Layout.{piece_at, record_of, free_of, record_at, frees_of, LaidOut, Keeps, TakesBack, MeetsNoRecord}
use Rattle.hf_block.proofs.Listing.{between_long}
use Rattle.std.proofs.lemmas.List.{length-take-le}
use Rattle.hf_layout.proofs.Places.{aligned, long, long-append, long-cons, here, later, behind, in_middle, outside, Parted, parted_at, one_parting}
use Rattle.hf_layout.proofs.Segments.{length-free_head, large, wrote_between, wrote_long, parts, around, one_free, two_free, one_whole, one_long, fused, split}
use Rattle.hf_layout.proofs.Shares.{with_at, with_off, without_at, without_off, pools, shared_as, record_is, ends, whole_around, inner, ends_within, known, inside_none, Gathered}

-- the free block in front
pub gather_front : (unit first end : ℕ) (ps : List Piece) (frees lent now new : Frees) (bytes : List ℕ) (at start front mid size total : ℕ) → LaidOut unit first end ps frees lent bytes → IsThere now start front → start + front ≡ mid → total ≡ front + size → ((q : ℕ) → new q ≡ without now start q) → ((q : ℕ) → now q ≡ frees q) → Gathered first ps frees lent now at mid size → Gathered first ps frees lent new at start total
gather_front unit first end ps frees lent now new bytes at start front mid size total h there meets sum gone same g =
    let k = known unit first end ps frees lent bytes start front h (sym (same start) ∙ there) in
    let s = parted_at first ps start k.piece k.at in
    let parting : s.ys ≡ g.seg ++ g.ys = one_parting unit (s.xs ++ (k.piece ∷ [])) s.ys g.xs (g.seg ++ g.ys)
    (subst (λ (l : List Piece). AllWhole unit l) (s.is ∙ sym (append_assoc s.xs (k.piece ∷ []) s.ys)) h.filled.whole)
    (append_assoc s.xs (k.piece ∷ []) s.ys ∙ sym s.is ∙ g.is)
    (omega (arith, long-append s.xs (k.piece ∷ []), long-cons k.piece [], k.size, s.place, g.place, meets)) in
    let some : 0 < front = omega (arith, k.size, (whole_around unit s.xs (k.piece ∷ []) s.ys ps s.is h.filled.whole).1.0.size.some) in
    record {
      xs = s.xs;
      seg = k.piece ∷ g.seg;
      ys = g.ys;
      is = s.is ∙ ap (λ (l : List Piece). s.xs ++ (k.piece ∷ l)) parting;
      place = s.place;
      size = omega (arith, long-cons k.piece g.seg, k.size, g.size, sum);
      low = omega (arith, g.low, meets);
      high = omega (arith, g.high, meets, sum);
      gone = λ q low high. elim (cases_eq q start) [
        | inl e ↦ gone q ∙ without_at now start q e
        | inr ne ↦ gone q ∙ without_off now start q ne ∙ elim (cases_lt q mid) [
          | inl less ↦ same q ∙ (inside_none unit first end ps frees lent bytes k.piece start q h k.at (omega (arith, low, ne)) (omega (arith, less, meets, k.size))).0
          | inr more ↦ g.gone q more (omega (arith, high, meets, sum))
        ]
      ];
      unlent = λ q low high ne. elim (cases_eq q start) [
        | inl e ↦ ap lent e ∙ k.unlent
        | inr other ↦ elim (cases_lt q mid) [
          | inl less ↦ (inside_none unit first end ps frees lent bytes k.piece start q h k.at (omega (arith, low, other)) (omega (arith, less, meets, k.size))).1
          | inr more ↦ g.unlent q more (omega (arith, high, meets, sum)) ne
        ]
      ];
      no_record = λ q low high ne. elim (cases_eq q start) [
        | inl e ↦ ap (λ (n : ℕ). record_at first ps n) e ∙ k.no_record
        | inr other ↦ elim (cases_lt q mid) [
          | inl less ↦ (inside_none unit first end ps frees lent bytes k.piece start q h k.at (omega (arith, low, other)) (omega (arith, less, meets, k.size))).2
          | inr more ↦ g.no_record q more (omega (arith, high, meets, sum)) ne
        ]
      ];
      off = λ q out. elim out [
        | inl low ↦ gone q ∙ without_off now start q (omega arith) ∙ same q
        | inr high ↦ gone q ∙ without_off now start q (omega (arith, high, sum, some)) ∙ same q
      ];
    }

-- the free block behind
pub gather_back : (unit first end : ℕ) (ps : List Piece) (frees lent now new : Frees) (bytes : List ℕ) (at start size mid back total : ℕ) → LaidOut unit first end ps frees lent bytes → IsThere now mid back → start + size ≡ mid → total ≡ size + back → ((q : ℕ) → new q ≡ without now mid q) → Gathered first ps frees lent now at start size → Gathered first ps frees lent new at start total
gather_back unit first end ps frees lent now new bytes at start size mid back total h there meets sum gone g =
    let k = known unit first end ps frees lent bytes mid back h (sym (g.off mid (inr (omega (arith, meets)))) ∙ there) in
    let s = parted_at first ps mid k.piece k.at in
    let parting : g.ys ≡ k.piece ∷ s.ys = one_parting unit (g.xs ++ g.seg) g.ys s.xs (k.piece ∷ s.ys)
    (subst (λ (l : List Piece). AllWhole unit l) (g.is ∙ sym (append_assoc g.xs g.seg g.ys)) h.filled.whole)
    (append_assoc g.xs g.seg g.ys ∙ sym g.is ∙ s.is)
    (omega (arith, long-append g.xs g.seg, g.size, s.place, g.place, meets)) in
    let some : 0 < back = omega (arith, k.size, (whole_around unit s.xs (k.piece ∷ []) s.ys ps s.is h.filled.whole).1.0.size.some) in
    record {
      xs = g.xs;
      seg = g.seg ++ (k.piece ∷ []);
      ys = s.ys;
      is = g.is ∙ ap (λ (l : List Piece). g.xs ++ l) (ap (λ (l : List Piece). g.seg ++ l) parting ∙ sym (append_assoc g.seg (k.piece ∷ []) s.ys));
      place = g.place;
      size = omega (arith, long-append g.seg (k.piece ∷ []), long-cons k.piece [], k.size, g.size, sum);
      low = g.low;
      high = omega (arith, g.high, sum);
      gone = λ q low high. elim (cases_eq q mid) [
        | inl e ↦ gone q ∙ without_at now mid q e
        | inr ne ↦ gone q ∙ without_off now mid q ne ∙ elim (cases_lt q mid) [
          | inl less ↦ g.gone q low (omega (arith, less, meets))
          | inr more ↦ g.off q (inr (omega (arith, more, meets))) ∙ (inside_none unit first end ps frees lent bytes k.piece mid q h k.at (omega (arith, more, ne)) (omega (arith, high, meets, sum, k.size))).0
        ]
      ];
      unlent = λ q low high ne. elim (cases_eq q mid) [
        | inl e ↦ ap lent e ∙ k.unlent
        | inr other ↦ elim (cases_lt q mid) [
          | inl less ↦ g.unlent q low (omega (arith, less, meets)) ne
          | inr more ↦ (inside_none unit first end ps frees lent bytes k.piece mid q h k.at (omega (arith, more, other)) (omega (arith, high, meets, sum, k.size))).1
        ]
      ];
      no_record = λ q low high ne. elim (cases_eq q mid) [
        | inl e ↦ ap (λ (n : ℕ). record_at first ps n) e ∙ k.no_record
        | inr other ↦ elim (cases_lt q mid) [
          | inl less ↦ g.no_record q low (omega (arith, less, meets)) ne
          | inr more ↦ (inside_none unit first end ps frees lent bytes k.piece mid q h k.at (omega (arith, more, other)) (omega (arith, high, meets, sum, k.size))).2
        ]
      ];
      off = λ q out. elim out [
        | inl low ↦ gone q ∙ without_off now mid q (omega (arith, low, meets)) ∙ g.off q (inl low)
        | inr high ↦ gone q ∙ without_off now mid q (omega (arith, high, meets, sum, some)) ∙ g.off q (inr (omega (arith, high, sum)))
      ];
    }

-- where a place stands to a row
pub sides : (q start total : ℕ) → ((q < start) ⊎ (start + total ≤ q)) ⊎ ((start ≤ q) × (q < start + total))
sides q start total = elim (cases_lt q start) [
  | inl low ↦ inl (inl low)
  | inr more ↦ elim (cases_lt q (start + total)) [ inl less ↦ inr (more, less) | inr high ↦ inl (inr high) ]
]

-- what begins where, once a row is replaced by another
pub record Swapped (first from total : ℕ) (old new row : List Piece) : Type 0 where
  pub out : (q : ℕ) → (q < from) ⊎ (from + total ≤ q) → piece_at first new q ≡ piece_at first old q
  pub within : (q : ℕ) → from ≤ q → q < from + total → piece_at first new q ≡ piece_at from row q

pub swapped : (unit first from total : ℕ) (xs old new ys ps : List Piece) → ps ≡ xs ++ (old ++ ys) → AllWhole unit ps → AllWhole unit new → first + long xs ≡ from → long old ≡ total → long new ≡ total → Swapped first from total ps (xs ++ (new ++ ys)) new
swapped unit first from total xs old new ys ps is whole more place e f =
    let w = whole_around unit xs old ys ps is whole in
    record {
      out = λ q out. outside unit first xs old new ys q w.0 w.1 more (f ∙ sym e) (elim out [ inl low ↦ inl (omega (arith, low, place)) | inr high ↦ inr (omega (arith, high, place, e)) ]) ∙ ap (λ (l : List Piece). piece_at first l q) (sym is);
      within = λ q low high. in_middle unit first xs new ys q w.0 (omega (arith, low, place)) (omega (arith, high, place, f)) ∙ ap (λ (n : ℕ). piece_at n new q) place;
    }

-- the row is one free block of the pool; some bytes inside it may have been others
pub given_back : (unit first end : ℕ) (ps : List Piece) (frees lent now new : Frees) (x bytes : List ℕ) (at start total : ℕ) → LaidOut unit first end ps frees lent (wrote at x bytes) → Gathered first ps frees lent now at start total → at + length x ≤ start + total → at + length x ≤ length bytes → total < 2 ^ 32 → ((q : ℕ) → new q ≡ with_block now start total q) → TakesBack unit first end ps new lent at (wrote start (free_head total) bytes)
given_back unit first end ps frees lent now new x bytes at start total h g in_row fits few with =
    record {
      pieces = new_ps;
      is = record {
        room = h.room;
        on = h.on;
        within = omega (arith, within, wrote_long start (free_head total) bytes (omega (arith, length-free_head total, big, last, within)));
        filled = subst (λ (b : List ℕ). AreBlocks unit b new_ps) (sym same_bytes) (fused unit total g.xs g.ys mid (between first end bytes) h.room w.0 w.2 mid_long some multiple few raw);
        shared = λ q. elim (sides q start total) [
          | inl out ↦ shared_as (frees_of first ps q) (frees_of first new_ps q) (frees q) (new q) (lent q) (without lent at q) (ap free_of (sw.out q out)) (with q ∙ with_off now start total q (apart q out) ∙ g.off q out) (without_off lent at q (not_at q out)) (h.shared q)
          | inr in_row ↦ elim (cases_eq q start) [
            | inl e ↦ inl (with q ∙ with_at now start total q e ∙ sym (ap free_of (first_one q in_row e) ∙ ap (λ (n : ℕ). Some n) one.0.fits), unlent q in_row)
            | inr ne ↦ inl (with q ∙ with_off now start total q ne ∙ g.gone q in_row.0 in_row.1 ∙ sym (ap free_of (rest q in_row ne)), unlent q in_row)
          ]
        ];
      };
      records = λ q. elim (sides q start total) [
        | inl out ↦ ap record_of (sw.out q out) ∙ sym (other q (not_at q out))
        | inr in_row ↦ none_there q in_row ∙ sym (old_one q in_row)
      ];
    }
  where
    w : AllWhole unit g.xs × AllWhole unit g.seg × AllWhole unit g.ys
    w = whole_around unit g.xs g.seg g.ys ps g.is h.filled.whole

    some : 0 < total
    some = omega (arith, g.low, g.high)

    multiple : total % unit ≡ 0
    multiple = sym (ap (λ (n : ℕ). n % unit) g.size) ∙ aligned unit g.seg (omega (arith, h.room)) w.1

    big : 5 ≤ total
    big = omega (arith, large unit total some multiple, h.room)

    within : end ≤ length bytes
    within = omega (arith, h.within, wrote_long at x bytes fits)

    last : start + total ≤ end
    last = omega (arith, ends unit first end ps frees lent (wrote at x bytes) h, ap long g.is, long-append g.xs (g.seg ++ g.ys), long-append g.seg g.ys, g.size, g.place)

    n : ℕ
    n = long g.xs

    place : start - first ≡ n
    place = omega (arith, g.place)

    seg_long : length (spell_all g.seg) ≡ total
    seg_long = g.size

    mid : List ℕ
    mid = take (length (spell_all g.seg)) (drop (length (spell_all g.xs)) (between first end bytes))

    range_long : first + length (between first end bytes) ≡ end
    range_long = between_long first end bytes h.on within

    raw : between first end bytes ≡ spell_all g.xs ++ (mid ++ spell_all g.ys)
    raw = around (spell_all g.xs) (spell_all g.seg) (spell_all g.ys) (between first end bytes) x (at - first)
        (sym (wrote_between first end at x bytes (omega (arith, g.low, g.place)) (omega (arith, in_row, last)) within) ∙ h.filled.is ∙ ap spell_all g.is ∙ parts g.xs g.seg g.ys)
        (omega (arith, g.low, g.place))
        (omega (arith, in_row, g.place, g.size, g.low))
        (omega (arith, in_row, last, range_long, g.low, g.place))

    mid_long : length mid ≡ total
    mid_long = length-take-le (length (spell_all g.seg)) (drop (length (spell_all g.xs)) (between first end bytes)) (omega (arith, length-drop (length (spell_all g.xs)) (between first end bytes), range_long, last, g.place, g.size)) ∙ g.size

    new_row : List Piece
    new_row = one_free total mid

    new_ps : List Piece
    new_ps = g.xs ++ (new_row ++ g.ys)

    same_bytes : between first end (wrote start (free_head total) bytes) ≡ wrote (long g.xs) (free_head total) (between first end bytes)
    same_bytes = wrote_between first end start (free_head total) bytes (omega (arith, g.place)) (omega (arith, length-free_head total, big, last)) within ∙ ap (λ (k : ℕ). wrote k (free_head total) (between first end bytes)) place

    one : AllWhole unit new_row
    one = one_whole unit total mid h.room mid_long some multiple few

    sw : Swapped first start total ps new_ps new_row
    sw = swapped unit first start total g.xs g.seg new_row g.ys ps g.is h.filled.whole one g.place g.size (one_long unit total mid h.room mid_long some multiple few)

    apart : (q : ℕ) → (q < start) ⊎ (start + total ≤ q) → q ≢ start
    apart q (inl low) e = omega arith
    apart q (inr high) e = omega (arith, some)

    not_at : (q : ℕ) → (q < start) ⊎ (start + total ≤ q) → q ≢ at
    not_at q (inl low) e = omega (arith, g.low)
    not_at q (inr high) e = omega (arith, g.high)

    first_one : (q : ℕ) → (start ≤ q) × (q < start + total) → q ≡ start → piece_at first new_ps q ≡ Some (free total (drop 5 mid))
    first_one q row e = sw.within q row.0 row.1 ∙ here start (free total (drop 5 mid)) [] q e

    rest : (q : ℕ) → (start ≤ q) × (q < start + total) → q ≢ start → piece_at first new_ps q ≡ None
    rest q row ne = sw.within q row.0 row.1 ∙ later start (free total (drop 5 mid)) [] q ne

    unlent : (q : ℕ) → (start ≤ q) × (q < start + total) → without lent at q ≡ None
    unlent q row = elim (cases_eq q at) [ inl e ↦ without_at lent at q e | inr ne ↦ without_off lent at q ne ∙ g.unlent q row.0 row.1 ne ]

    none_there : (q : ℕ) → (start ≤ q) × (q < start + total) → record_at first new_ps q ≡ None
    none_there q row = elim (cases_eq q start) [ inl e ↦ ap record_of (first_one q row e) | inr ne ↦ ap record_of (rest q row ne) ]

    other : (q : ℕ) → q ≢ at → (if q == at then None else record_at first ps q) ≡ record_at first ps q
    other q ne = ap (λ (b : Bool). cond b None (record_at first ps q)) (ne_eqb q at ne)

    old_one : (q : ℕ) → (start ≤ q) × (q < start + total) → (if q == at then None else record_at first ps q) ≡ None
    old_one q row = elim (cases_eq q at) [ inl e ↦ ap (λ (b : Bool). cond b None (record_at first ps q)) (eq-eqb q at e) | inr ne ↦ other q ne ∙ g.no_record q row.0 row.1 ne ]

-- ---- a free block lent out

-- the whole of it: nothing is written
pub lent_whole : (unit first end : ℕ) (ps : List Piece) (frees lent new : Frees) (bytes : List ℕ) (place size : ℕ) → LaidOut unit first end ps frees lent bytes → IsThere frees place size → ((q : ℕ) → new q ≡ without frees place q) → Keeps unit first end ps new (with_block lent place size) bytes
lent_whole unit first end ps frees lent new bytes place size h there less = record {
  pieces = ps;
  is = record {
    room = h.room;
    on = h.on;
    within = h.within;
    filled = h.filled;
    shared = λ q. elim (cases_eq q place) [
      | inl e ↦ inr (less q ∙ without_at frees place q e, with_at lent place size q e ∙ sym (ap (frees_of first ps) e ∙ (pools (frees_of first ps place) (frees place) (lent place) size (h.shared place) there).0))
      | inr ne ↦ shared_as (frees_of first ps q) (frees_of first ps q) (frees q) (new q) (lent q) (with_block lent place size q) refl (less q ∙ without_off frees place q ne) (with_off lent place size q ne) (h.shared q)
    ];
  };
  records = λ q. refl;
}

-- the front of it: both parts get heads
front_of : (unit first end : ℕ) (ps : List Piece) (frees lent new : Frees) (bytes : List ℕ) (place size found : ℕ) (tail : List ℕ) → LaidOut unit first end ps frees lent bytes → piece_at first ps place ≡ Some (free found tail) → IsThere frees place found → 0 < size → size % unit ≡ 0 → size < found → ((q : ℕ) → new q ≡ with_block (without frees place) (place + size) (found - size) q) → Keeps unit first end ps new (with_block lent place size) (wrote (place + size) (free_head (found - size)) (wrote place (free_head size) bytes))
front_of unit first end ps frees lent new bytes place size found tail h at there some multiple less with =
    record {
      pieces = new_ps;
      is = record {
        room = h.room;
        on = h.on;
        within = omega (arith, h.within, long_one, long_two);
        filled = subst (λ (b : List ℕ). AreBlocks unit b new_ps) (sym same_bytes) sp.0;
        shared = λ q. elim (sides q place found) [
          | inl out ↦ shared_as (frees_of first ps q) (frees_of first new_ps q) (frees q) (new q) (lent q) (with_block lent place size q) (ap free_of (sw.out q out)) (with q ∙ with_off (without frees place) (place + size) (found - size) q (not_rest q out) ∙ without_off frees place q (not_front q out)) (with_off lent place size q (not_front q out)) (h.shared q)
          | inr row ↦ elim (cases_eq q place) [
            | inl e ↦ inr (with q ∙ with_off (without frees place) (place + size) (found - size) q (omega (arith, e, some)) ∙ without_at frees place q e, with_at lent place size q e ∙ sym (ap free_of (at_front q row e) ∙ ap (λ (n : ℕ). Some n) sp.1.0.fits))
            | inr ne ↦ elim (cases_eq q (place + size)) [
              | inl e ↦ inl (with q ∙ with_at (without frees place) (place + size) (found - size) q e ∙ sym (ap free_of (at_rest q row ne e) ∙ ap (λ (n : ℕ). Some n) sp.1.1.0.fits), with_off lent place size q ne ∙ (inside q row ne).1)
              | inr other ↦ inl (with q ∙ with_off (without frees place) (place + size) (found - size) q other ∙ without_off frees place q ne ∙ (inside q row ne).0 ∙ sym (ap free_of (at_none q row ne other)), with_off lent place size q ne ∙ (inside q row ne).1)
            ]
          ]
        ];
      };
      records = λ q. elim (sides q place found) [
        | inl out ↦ ap record_of (sw.out q out)
        | inr row ↦ elim (cases_eq q place) [
          | inl e ↦ ap record_of (at_front q row e) ∙ sym (ap record_of (ap (λ (n : ℕ). piece_at first ps n) e ∙ at))
          | inr ne ↦ new_none q row ne ∙ sym (inside q row ne).2
        ]
      ];
    }
  where
    s : Parted first ps place (free found tail)
    s = parted_at first ps place (free found tail) at

    row : List Piece
    row = two_free size found tail

    new_ps : List Piece
    new_ps = s.xs ++ (row ++ s.ys)

    h1 : LaidOut unit first end (s.xs ++ ((free found tail ∷ []) ++ s.ys)) frees lent bytes
    h1 = subst (λ (l : List Piece). LaidOut unit first end l frees lent bytes) s.is h

    hs : List ℕ
    hs = free_head size

    hr : List ℕ
    hr = free_head (found - size)

    sp : AreBlocks unit (wrote (long s.xs + size) hr (wrote (long s.xs) hs (between first end bytes))) new_ps × AllWhole unit row × (long row ≡ long (free found tail ∷ []))
    sp = split unit size found tail s.xs s.ys (between first end bytes) h.room some multiple less h1.filled

    whole_found : size_of (free found tail) ≡ found
    whole_found = (whole_around unit s.xs (free found tail ∷ []) s.ys ps s.is h.filled.whole).1.0.fits

    long_old : long (free found tail ∷ []) ≡ found
    long_old = omega (arith, long-cons (free found tail) [], whole_found)

    sw : Swapped first place found ps new_ps row
    sw = swapped unit first place found s.xs (free found tail ∷ []) row s.ys ps s.is h.filled.whole sp.1 s.place long_old (sp.2 ∙ long_old)

    big : 5 ≤ size
    big = omega (arith, large unit size some multiple, h.room)

    big_rest : 5 ≤ found - size
    big_rest = omega (arith, h.room, sp.1.1.0.fits, large unit (size_of (free (found - size) (drop size tail))) sp.1.1.0.size.some sp.1.1.0.size.aligned)

    last : place + found ≤ end
    last = omega (arith, ends unit first end (s.xs ++ ((free found tail ∷ []) ++ s.ys)) frees lent bytes h1, long-append s.xs ((free found tail ∷ []) ++ s.ys), long-append (free found tail ∷ []) s.ys, long_old, s.place)

    lh : length hs ≡ 5
    lh = length-free_head size

    lr : length hr ≡ 5
    lr = length-free_head (found - size)

    long_one : length (wrote place hs bytes) ≡ length bytes
    long_one = wrote_long place hs bytes (omega (arith, lh, big, last, less, h.within))

    long_two : length (wrote (place + size) hr (wrote place hs bytes)) ≡ length (wrote place hs bytes)
    long_two = wrote_long (place + size) hr (wrote place hs bytes) (omega (arith, lr, big_rest, last, less, h.within, long_one))

    same_bytes : between first end (wrote (place + size) hr (wrote place hs bytes)) ≡ wrote (long s.xs + size) hr (wrote (long s.xs) hs (between first end bytes))
    same_bytes =
        let n : place - first ≡ long s.xs = omega (arith, s.place) in
        let m : place + size - first ≡ long s.xs + size = omega (arith, s.place) in
        wrote_between first end (place + size) hr (wrote place hs bytes) (omega (arith, s.place)) (omega (arith, lr, big_rest, last, less)) (omega (arith, long_one, h.within))
        ∙ ap (λ (k : ℕ). wrote k hr (between first end (wrote place hs bytes))) m
        ∙ ap (λ (b : List ℕ). wrote (long s.xs + size) hr b) (wrote_between first end place hs bytes (omega (arith, s.place)) (omega (arith, lh, big, last, less)) h.within ∙ ap (λ (k : ℕ). wrote k hs (between first end bytes)) n)

    not_front : (q : ℕ) → (q < place) ⊎ (place + found ≤ q) → q ≢ place
    not_front q (inl low) e = omega arith
    not_front q (inr high) e = omega (arith, less)

    not_rest : (q : ℕ) → (q < place) ⊎ (place + found ≤ q) → q ≢ place + size
    not_rest q (inl low) e = omega arith
    not_rest q (inr high) e = omega (arith, less)

    inside : (q : ℕ) → (place ≤ q) × (q < place + found) → q ≢ place → (frees q ≡ None) × (lent q ≡ None) × (record_at first ps q ≡ None)
    inside q r ne = inside_none unit first end ps frees lent bytes (free found tail) place q h at (omega (arith, r.0, ne)) (omega (arith, r.1, whole_found))

    at_front : (q : ℕ) → (place ≤ q) × (q < place + found) → q ≡ place → piece_at first new_ps q ≡ Some (free size (take (size - 5) tail))
    at_front q r e = sw.within q r.0 r.1 ∙ here place (free size (take (size - 5) tail)) (free (found - size) (drop size tail) ∷ []) q e

    past : (q : ℕ) → (place ≤ q) × (q < place + found) → q ≢ place → piece_at first new_ps q ≡ piece_at (place + size) (free (found - size) (drop size tail) ∷ []) q
    past q r ne = sw.within q r.0 r.1 ∙ later place (free size (take (size - 5) tail)) (free (found - size) (drop size tail) ∷ []) q ne ∙ ap (λ (n : ℕ). piece_at (place + n) (free (found - size) (drop size tail) ∷ []) q) sp.1.0.fits

    at_rest : (q : ℕ) → (place ≤ q) × (q < place + found) → q ≢ place → q ≡ place + size → piece_at first new_ps q ≡ Some (free (found - size) (drop size tail))
    at_rest q r ne e = past q r ne ∙ here (place + size) (free (found - size) (drop size tail)) [] q e

    at_none : (q : ℕ) → (place ≤ q) × (q < place + found) → q ≢ place → q ≢ place + size → piece_at first new_ps q ≡ None
    at_none q r ne other = past q r ne ∙ later (place + size) (free (found - size) (drop size tail)) [] q other

    new_none : (q : ℕ) → (place ≤ q) × (q < place + found) → q ≢ place → record_at first new_ps q ≡ None
    new_none q r ne = elim (cases_eq q (place + size)) [ inl e ↦ ap record_of (at_rest q r ne e) | inr other ↦ ap record_of (at_none q r ne other) ]

pub lent_front : (unit first end : ℕ) (ps : List Piece) (frees lent new : Frees) (bytes : List ℕ) (place size found : ℕ) → LaidOut unit first end ps frees lent bytes → IsThere frees place found → 0 < size → size % unit ≡ 0 → size < found → ((q : ℕ) → new q ≡ with_block (without frees place) (place + size) (found - size) q) → Keeps unit first end ps new (with_block lent place size) (wrote (place + size) (free_head (found - size)) (wrote place (free_head size) bytes))
lent_front unit first end ps frees lent new bytes place size found h there some multiple less with = go (piece_at first ps place) refl (pools (frees_of first ps place) (frees place) (lent place) found (h.shared place) there).0
  where
    go : (o : Option Piece) → piece_at first ps place ≡ o → free_of o ≡ Some found → Keeps unit first end ps new (with_block lent place size) (wrote (place + size) (free_head (found - size)) (wrote place (free_head size) bytes))
    go None at f = absurd cc
    go (Some (held r)) at f = absurd cc
    go (Some (free says tail)) at f =
        let s = parted_at first ps place (free says tail) at in
        let fits : size_of (free says tail) ≡ says = (whole_around unit s.xs (free says tail ∷ []) s.ys ps s.is h.filled.whole).1.0.fits in
        let e : size_of (free says tail) ≡ found = cc in
        front_of unit first end ps frees lent new bytes place size found tail h (at ∙ ap (λ (n : ℕ). Some (free n tail)) (sym fits ∙ e)) there some multiple less with

-- ---- what is taken meets no record

pub meets_no_record : (unit first end : ℕ) (ps : List Piece) (frees lent : Frees) (bytes : List ℕ) (place size found : ℕ) → LaidOut unit first end ps frees lent bytes → IsThere frees place found → size ≤ found → MeetsNoRecord first ps place size
meets_no_record unit first end ps frees lent bytes place size found h there enough q r is =
    let p = record_is (piece_at first ps q) r is in
    let k = known unit first end ps frees lent bytes place found h there in
    elim (cases_lt q place) [
      | inl low ↦ elim (cases_lt place (q + size_of (held r))) [
        | inl over ↦ absurd (let e = inner unit first ps (held r) q place h.filled.whole p low over in let f = k.at in cc)
        | inr before ↦ inl before
      ]
      | inr more ↦ elim (cases_lt q (place + size)) [
        | inr behind ↦ inr behind
        | inl less ↦ absurd (elim (cases_eq q place) [
          | inl e ↦ let f : None ≡ Some r = sym k.no_record ∙ ap (λ (n : ℕ). record_at first ps n) (sym e) ∙ is in cc
          | inr ne ↦ let f : None ≡ Some r = sym (inside_none unit first end ps frees lent bytes k.piece place q h k.at (omega (arith, more, ne)) (omega (arith, less, enough, k.size))).2 ∙ is in cc
        ])
      ]
    ]

pub beyond_no_record : (unit first end : ℕ) (ps : List Piece) (frees lent : Frees) (bytes : List ℕ) (place size : ℕ) → LaidOut unit first end ps frees lent bytes → end ≤ place → MeetsNoRecord first ps place size
beyond_no_record unit first end ps frees lent bytes place size h beyond q r is =
    let e = ends_within unit first ps (held r) q (record_is (piece_at first ps q) r is) in
    inl (omega (arith, e, ends unit first end ps frees lent bytes h, beyond))
