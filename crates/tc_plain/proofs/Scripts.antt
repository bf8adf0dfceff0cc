-- What a list of requests is answered, one after the other; and the equations by which such answers compute.
use Rattle.std.proofs.Common.{◌≡◌, ℕ, Bool, cond, not, List, [], ◌∷◌, length, refl, sym, ap, ◌∙◌}
use Rattle.std.specs.Prelude.{Some, None, codes}
use Rattle.std.specs.Fmt.{decimal, digits as numerals}
use Rattle.std.specs.Ordering.{nat_cmp, eq_by_cmp}
use Rattle.std.specs.declared.cmp.Ordering.{Ordering}
use Rattle.std.specs.declared.cmp.Ordering.TheVariants.{Equal}
use Rattle.std.specs.Cmp.{IsTotalOrder, nat_cmp_total, eq_by_cmp_equiv}
use Rattle.std.specs.Cmp.Lexicographic.{slice_cmp, nat_list_cmp_total}
use Rattle.std.specs.FinMap.{FinMap, IsAntisymmetric, nat_cmp-IsAntisymmetric, entries, empty, get, insert, remove, len, len-entries, entries-insert, find, put, same_map, get-entries, get-empty, get-insert, get-remove}
use Rattle.std.specs.FinMap.Entries.{where_key, find-where_key}
use Rattle.tc_base.specs.declared.seq.Pair.{Pair}
use Rattle.tc_base.specs.declared.request.Request.{Request}
use Rattle.tc_base.specs.declared.request.Reply.{Reply}
use Rattle.tc_model.specs.declared.query.IndexKind.{IndexKind}
use Rattle.tc_model.specs.Contents.{Contents, hash, tree, fixed, table, Walk}
use Rattle.tc_model.specs.Apply.{Step, applied}
use Rattle.tc_model.proofs.MapLaws.{entries-empty, turned, bytes_same}

module _ {K X : Type 0} (R : K → K → Ordering) where
  -- the entries in order
  abbrev pub placed : List (K × X) → List (K × X)
  placed [] = []
  placed (e ∷ es) = put R e.0 e.1 (placed es)

  -- the map of some entries; the first of a key counts
  unfoldable pub map_of : List (K × X) → FinMap R X
  map_of [] = empty
  map_of (e ∷ es) = insert (map_of es) e.0 e.1

module _ {K X : Type 0} {R : K → K → Ordering} where
  pub entries-map_of : IsTotalOrder R → (es : List (K × X)) → entries (map_of R es) ≡ placed R es
  unfolding map_of
  entries-map_of o [] = entries-empty R
  entries-map_of o (e ∷ es) = entries-insert o (map_of R es) e.0 e.1 ∙ ap (put R e.0 e.1) (entries-map_of o es)

  pub empty-map_of : empty {X = X} {R = R} ≡ map_of R []
  unfolding map_of
  empty-map_of = refl

  pub insert-map_of : (es : List (K × X)) (k : K) (v : X) → insert (map_of R es) k v ≡ map_of R ((k, v) ∷ es)
  unfolding map_of
  insert-map_of es k v = refl

  pub get-map_of : IsTotalOrder R → (es : List (K × X)) (q : K) → get (map_of R es) q ≡ find R q (placed R es)
  get-map_of o es q = get-entries (map_of R es) q ∙ ap (find R q) (entries-map_of o es)

  pub len-map_of : IsTotalOrder R → (es : List (K × X)) → len (map_of R es) ≡ length (placed R es)
  len-map_of o es = len-entries (map_of R es) ∙ ap length (entries-map_of o es)

  find-map_of : IsTotalOrder R → (es : List (K × X)) (q : K) → get (map_of R es) q ≡ find R q es
  unfolding map_of
  find-map_of o [] q = get-empty R q
  find-map_of o (e ∷ es) q = get-insert o (map_of R es) e.0 e.1 q ∙ ap (cond (eq_by_cmp R q e.0) (Some e.1)) (find-map_of o es q)

  pub remove-map_of : IsTotalOrder R → IsAntisymmetric R → (es : List (K × X)) (k : K) → remove (map_of R es) k ≡ map_of R (where_key R (λ x. not (eq_by_cmp R k x)) es)
  remove-map_of o same es k =
      let test = λ (x : K). not (eq_by_cmp R k x) in
      let alike : (q x : K) → R q x ≡ Equal → not (eq_by_cmp R k x) ≡ not (eq_by_cmp R k q) = λ q x e. ap (λ y. not (eq_by_cmp R k y)) (sym (same q x e)) in
      same_map o same _ _ (λ q. get-remove o (map_of R es) k q ∙ ap (λ b. cond b None (get (map_of R es) q)) ((eq_by_cmp_equiv o).symm q k) ∙ sym (turned (eq_by_cmp R k q) (get (map_of R es) q) None)
      ∙ ap (λ f. cond (not (eq_by_cmp R k q)) f None) (find-map_of o es q) ∙ sym (find-where_key R test q (alike q) es) ∙ sym (find-map_of o (where_key R test es) q))

-- ---- scripts

-- the answer of a step, and those of the requests behind it
unfoldable pub goes_on : Step → List Request → List Reply
goes_on s [] = s.reply ∷ []
goes_on s (r ∷ rs) = s.reply ∷ goes_on (applied r s.contents s.walk) rs

-- the answers from contents on, with no walk
abbrev pub answers : Contents → List Request → List Reply
answers c [] = []
answers c (r ∷ rs) = goes_on (applied r c None) rs

-- what is held is known before the next request is looked at
abbrev step : Contents → Walk → Reply → Bool → Step
step c w a ok = record { contents = c; walk = w; reply = a; ok = ok }

pub goes_on-end : (c : Contents) (w : Walk) (a : Reply) (ok : Bool) → goes_on (step c w a ok) [] ≡ a ∷ []
unfolding goes_on
goes_on-end c w a ok = refl

pub goes_on-hash : (memory : Bool) (es : List (List ℕ × List ℕ)) (w : Walk) (a : Reply) (ok : Bool) (r : Request) (rs : List Request) →
    goes_on (step (hash memory (map_of (slice_cmp nat_cmp) es)) w a ok) (r ∷ rs) ≡ a ∷ goes_on (applied r (hash memory (map_of (slice_cmp nat_cmp) es)) w) rs
unfolding goes_on
goes_on-hash memory es w a ok r rs = refl

pub goes_on-tree : (memory decimal : Bool) (ps : List Pair) (w : Walk) (a : Reply) (ok : Bool) (r : Request) (rs : List Request) →
    goes_on (step (tree memory decimal ps) w a ok) (r ∷ rs) ≡ a ∷ goes_on (applied r (tree memory decimal ps) w) rs
unfolding goes_on
goes_on-tree memory decimal ps w a ok r rs = refl

pub goes_on-fixed : (width most : ℕ) (es : List (ℕ × List ℕ)) (w : Walk) (a : Reply) (ok : Bool) (r : Request) (rs : List Request) →
    goes_on (step (fixed width most (map_of nat_cmp es)) w a ok) (r ∷ rs) ≡ a ∷ goes_on (applied r (fixed width most (map_of nat_cmp es)) w) rs
unfolding goes_on
goes_on-fixed width most es w a ok r rs = refl

pub goes_on-table : (rows : List (List ℕ × List Pair)) (indexes : List (List ℕ × IndexKind)) (w : Walk) (a : Reply) (ok : Bool) (r : Request) (rs : List Request) →
    goes_on (step (table (map_of (slice_cmp nat_cmp) rows) (map_of (slice_cmp nat_cmp) indexes)) w a ok) (r ∷ rs)
    ≡ a ∷ goes_on (applied r (table (map_of (slice_cmp nat_cmp) rows) (map_of (slice_cmp nat_cmp) indexes)) w) rs
unfolding goes_on
goes_on-table rows indexes w a ok r rs = refl

-- the texts of small numbers
pub decimal-0 : decimal 0 ≡ codes "0"
unfolding numerals
decimal-0 = refl

pub decimal-1 : decimal 1 ≡ codes "1"
unfolding numerals
decimal-1 = refl

pub decimal-2 : decimal 2 ≡ codes "2"
unfolding numerals
decimal-2 = refl

pub decimal-5 : decimal 5 ≡ codes "5"
unfolding numerals
decimal-5 = refl

pub ruleset decimals = (decimal-0, decimal-1, decimal-2, decimal-5)

pub ruleset computing = (goes_on-end, goes_on-hash, goes_on-tree, goes_on-fixed, goes_on-table, entries-map_of, empty-map_of, insert-map_of, remove-map_of, get-map_of, len-map_of, nat_list_cmp_total, nat_cmp_total, bytes_same, nat_cmp-IsAntisymmetric)
