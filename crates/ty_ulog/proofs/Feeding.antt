-- What a feed is given, and what more records leave to it.
use Rattle.std.proofs.Common.{◌≡◌, ℕ, ◌+◌, ◌-◌, ◌≤◌, ◌<◌, List, [], ◌∷◌, ◌++◌, length, take, drop, refl, sym, ap, subst, ◌∙◌, arith, length-drop}
use Rattle.std.specs.Prelude.{min, nat_lt, Option, Some, None, Result, Ok, Err, IfOk}
use Rattle.std.proofs.lemmas.Bool.{cond-false, le-ltb}
use Rattle.std.proofs.lemmas.List.Elements.{filter-append}
use Rattle.std.proofs.lemmas.List.{drop-append-le, drop-drop, length-take, nil_from_length, take-append-drop}
use Rattle.tc_space.specs.declared.space.Space.{Ghosts}
use Rattle.ty_ulog.specs.declared.feed.Feed.{Feed}
use Rattle.ty_ulog.specs.declared.log.Ulog.{Ulog}
use Rattle.ty_ulog.specs.declared.record.Record.{Record}
use Rattle.ty_ulog.specs.Log.{log_bytes, above, last_of, Follow}
use Rattle.ty_ulog.specs.Holding.{Holds}
use Rattle.ty_ulog.specs.Feeds.{from_place, left, room, CountsAt, FindsPlace, Gives, IsFound, IsPlace, Stands}
use Rattle.ty_ulog.proofs.Marking.{last_grows, last_parts, log_parts, long_parts}
use Rattle.ty_ulog.proofs.Passing.{all_above}

none_above : (stamp held : ℕ) (rs : List Record) → Follow held rs → last_of held rs ≤ stamp → above stamp rs ≡ []
none_above stamp held [] f le = refl
none_above stamp held (r ∷ rs) f le = cond-false _ _ _ (le-ltb stamp r.stamp (omega (arith, le, last_grows r.stamp rs f.2))) ∙ none_above stamp r.stamp rs f.2 le

-- ---- a place

-- it has one
pub found_held : (f : Feed) (rs : List Record) (at : ℕ) → f.place ≡ Some at → IsFound f rs (Some at)
found_held f rs at is =
    let same : Some at ≡ f.place = sym is in
    subst (IsFound f rs) (sym same) (record { same = refl; none = λ e. absurd (go f.place e is); stands = λ s. s })
  where
    go : (o : Option ℕ) → o ≡ None → o ≡ Some at → ⊥
    go None e some = cc
    go (Some at') e some = cc

-- the log has no record above
pub found_none : (f : Feed) (u : Ulog) (file : List ℕ) (rs : List Record) → f.place ≡ None → Holds u file rs → u.last ≤ f.above → IsFound f rs None
found_none f u file rs none h le =
    let same : from_place None f.above rs ≡ left f rs = ap (λ (o : Option ℕ). from_place o f.above rs) (sym none) in
    record { same = same; none = λ e. sym same ∙ ap log_bytes (none_above f.above 0 rs h.log.follow (omega (arith, le, h.last_is))); stands = λ s. tt }

room_most : (o : Option ℕ) → room o ≤ 18446744073709551616
room_most None = omega arith
room_most (Some at) = omega arith

-- before a place is found there is most room
pub room_falls : {E : Type 0} (r : Result (Option ℕ) E) (place : Option ℕ) → place ≡ None → IfOk r (λ o. room o ≤ room place)
room_falls (Ok o) place e = subst (λ (p : Option ℕ). room o ≤ room p) (sym e) (room_most o)
room_falls (Err x) place e = tt

-- the first record above
pub found_first : (f : Feed) (u : Ulog) (file : List ℕ) (rs : List Record) (at : ℕ) → f.place ≡ None → Holds u file rs → f.above < u.last → at ≤ length file → drop at file ≡ log_bytes (above f.above rs) → IsFound f rs (Some at)
found_first f u file rs at none h lt inside rest = record {
  same = ap (drop at) (sym h.log.row.parts) ∙ rest ∙ ap (λ (o : Option ℕ). from_place o f.above rs) (sym none);
  none = λ e. absurd cc;
  stands = λ s. (omega (arith, inside, ap length h.log.row.parts), omega (arith, lt, h.last_is));
}

-- what is found above its timestamp is found for a feed without a place
pub found_by : {S E : Type 0} (s : Ghosts S) (log : Ulog) (space : S) (r : Result (Option ℕ) E) (f : Feed) → f.place ≡ None → IfOk r (FindsPlace s log space (record { above = f.above; place = None })) → IfOk r (FindsPlace s log space f)
found_by s log space (Ok o) f none found = λ rs m. subst (λ (p : Option ℕ). IsFound (record { above = f.above; place = p }) rs o) (sym none) (found rs m)
found_by s log space (Err e) f none found = tt

-- ---- how many bytes are read

pub counts_none : {S : Type 0} (s : Ghosts S) (log : Ulog) (place : Option ℕ) (a : S) → CountsAt s log place a a 0
counts_none s log None a = λ rs m. omega arith
counts_none s log (Some at) a = omega arith

pub counts_more : {S : Type 0} (s : Ghosts S) (log : Ulog) (place : Option ℕ) (a b c : S) (n : ℕ) → CountsAt s log place a b 0 → s.bytes_read c ≤ s.bytes_read b + n → CountsAt s log place a c n
counts_more s log None a b c n few more = λ rs m. omega (arith, few rs m, more)
counts_more s log (Some at) a b c n few more = omega (arith, few, more)

-- ---- bytes from a place on

pub given_none : (f : Feed) (rs : List Record) (into : List ℕ) → IsFound f rs None → Gives f f rs (take 0 into)
given_none f rs [] found = record { parts = refl; many = omega (arith, ap length (found.none refl)); all = λ e. found.none refl; stands = λ s. s }
given_none f rs (b ∷ into) found = record { parts = refl; many = omega (arith, ap length (found.none refl)); all = λ e. found.none refl; stands = λ s. s }

pub given : (f g : Feed) (file : List ℕ) (rs : List Record) (u : Ulog) (at n : ℕ) (into : List ℕ) → IsFound f rs (Some at) → Holds u file rs → g.place ≡ Some (at + n) → g.above ≡ f.above → n ≡ min 4096 (length file - at)
    → take n into ≡ take n (drop at file) → Gives f g rs (take n into)
given f g file rs u at n into found h place same n_is bytes =
    let parts = h.log.row.parts in
    let rest : left g rs ≡ drop (at + n) (log_bytes rs) = (λ i. from_place (place i) (same i) rs) in
    let read : take n into ≡ take n (drop at (log_bytes rs)) = bytes ∙ ap (λ (l : List ℕ). take n (drop at l)) parts in
    let long_is : length file ≡ length (log_bytes rs) = ap length parts in
    record {
      parts = sym found.same ∙ sym (take-append-drop n (drop at (log_bytes rs))) ∙ ap (λ (l : List ℕ). l ++ drop n (drop at (log_bytes rs))) (sym read)
          ∙ ap (λ (l : List ℕ). take n into ++ l) (drop-drop n at (log_bytes rs) ∙ sym rest);
      many = omega (arith, ap length read, length-take n (drop at (log_bytes rs)), length-drop at (log_bytes rs), n_is, long_is, ap length found.same);
      all = λ e.
          let none : min n (length (drop at (log_bytes rs))) ≡ 0 = sym (length-take n (drop at (log_bytes rs))) ∙ ap length (sym read ∙ e) in
          rest ∙ nil_from_length (drop (at + n) (log_bytes rs)) (omega (arith, none, n_is, long_is, length-drop at (log_bytes rs), length-drop (at + n) (log_bytes rs)));
      stands = λ s. let p = found.stands s in subst (λ (o : Option ℕ). IsPlace o g.above rs) (sym place) (omega (arith, p.0, n_is, long_is), omega (arith, p.1, same));
    }

-- ---- more records

above_parts : (stamp : ℕ) (rs more : List Record) → above stamp (rs ++ more) ≡ above stamp rs ++ above stamp more
above_parts stamp rs more = filter-append (λ (r : Record). nat_lt stamp r.stamp) rs more

-- what more records leave to a feed is what they have above its timestamp
pub left_more : (f : Feed) (rs more : List Record) → Stands f rs → Follow (last_of 0 rs) more → left f (rs ++ more) ≡ left f rs ++ log_bytes (above f.above more)
left_more f rs more s follow = go f.place s
  where
    go : (place : Option ℕ) → IsPlace place f.above rs → from_place place f.above (rs ++ more) ≡ from_place place f.above rs ++ log_bytes (above f.above more)
    go None s = ap log_bytes (above_parts f.above rs more) ∙ log_parts (above f.above rs) (above f.above more)
    go (Some at) s =
        ap (drop at) (log_parts rs more) ∙ drop-append-le at (log_bytes rs) (log_bytes more) s.0
        ∙ ap (λ (l : List Record). drop at (log_bytes rs) ++ log_bytes l) (sym (all_above f.above (last_of 0 rs) more (omega (arith, s.1)) follow))

-- and it stands behind them too
pub stands_more : (f : Feed) (rs more : List Record) → Stands f rs → Follow (last_of 0 rs) more → Stands f (rs ++ more)
stands_more f rs more s follow = go f.place s
  where
    go : (place : Option ℕ) → IsPlace place f.above rs → IsPlace place f.above (rs ++ more)
    go None s = tt
    go (Some at) s = (omega (arith, s.0, long_parts rs more), omega (arith, s.1, last_parts 0 rs more, last_grows (last_of 0 rs) more follow))
