-- What puts and drops leave of a cache and its store.
use Rattle.std.proofs.Common.{◌≡◌, ℕ, ◌<◌, ◌^◌, List, ◌∷◌, Option, Some, None, Bool, true, false, cond, nat_eq, refl, sym, ap, subst, ◌∙◌, inl, inr, ⊎_elim}
use Rattle.std.specs.Prelude.{is_some}
use Rattle.std.specs.FinMap.{get, insert, remove}
use Rattle.std.specs.Map.{remove_entry}
use Rattle.std.proofs.lemmas.Bool.{eq-eqb}
use Rattle.lru.specs.LruCache.{lru_cache, IsValid, put_entries}
use Rattle.tc_base.specs.Maps.{Map}
use Rattle.tc_base.specs.declared.kind.Mode.TheVariants.{Over}
use Rattle.tc_space.specs.Changes.{is_in, out_of, put_in, value_in}
use Rattle.tc_space.specs.Frames.{Reads, Writes, Refuses}
use Rattle.tc_space.specs.Stores.{Puts, TakesOut}
use Rattle.tc_space.specs.declared.records.Records.{Ghosts as Stores}
use Rattle.tc_space.specs.declared.space.Space.{Ghosts}
use Rattle.bt_page.specs.Keys.{key_of}
use Rattle.bt_rows.specs.declared.page.Page.{Page}
use Rattle.bt_rows.specs.Pages.{IsPage, IsHeldAs}
use Rattle.bt_cache.specs.declared.shared.SharedPage.{SharedPage}
use Rattle.bt_cache.specs.Shared.{page_of}
use Rattle.bt_cache.specs.Ids.{used, without}
use Rattle.bt_cache.specs.Held.{Pages, ids, HasPage, AreSame, Beside, Holds}
use Rattle.bt_cache.proofs.Entries.{Fronts, put_front, removed_others, removed_keys, all_left}
use Rattle.bt_cache.proofs.Kept.{insert_here, insert_other, remove_other, remove_none, others_same}

put_page_held : (m : Map) (id : ℕ) (bytes : List ℕ) (p : Page) → id < 2 ^ 64 → IsPage id bytes p → HasPage (insert m (key_of id) bytes) id p
put_page_held m id bytes p fits is = record { fits = fits; page = subst (λ (o : Option (List ℕ)). IsHeldAs id o (Some p)) (sym (insert_here m (key_of id) bytes)) is }

fronts_put : (m : Map) (c : Pages) (id : ℕ) (x : SharedPage) (bytes : List ℕ) (es : List (ℕ × SharedPage)) → id < 2 ^ 64 → IsPage id bytes (page_of x) → Fronts c id x es → AreSame m c.entries → AreSame (insert m (key_of id) bytes) es
fronts_put m c id x bytes es fits is f a =
    subst (AreSame (insert m (key_of id) bytes)) (sym f.is)
    (put_page_held m id bytes (page_of x) fits is, others_same m (insert m (key_of id) bytes) id f.rest fits (λ k ne. insert_other m (key_of id) bytes k ne) f.others (f.all (λ e. HasPage m e.0 (page_of e.1)) a))

pub put_list : (c c' : Pages) (id : ℕ) (x : SharedPage) → IsValid nat_eq c → c' ≡ lru_cache (put_entries nat_eq c id x) c.cap → ids c' ≡ used c.cap id (ids c)
put_list c c' id x valid new = ap ids new ∙ (put_front c id x valid).keys

pub drop_list : (c c' : Pages) (id : ℕ) → IsValid nat_eq c → c' ≡ lru_cache (remove_entry (nat_eq id) c.entries) c.cap → ids c' ≡ without id (ids c)
drop_list c c' id valid new = ap ids new ∙ removed_keys id c.entries valid.0

-- what is behind a page in front is left without it
taken_back : (id : ℕ) (x : SharedPage) (es rest : List (ℕ × SharedPage)) → es ≡ (id, x) ∷ rest → remove_entry (nat_eq id) es ≡ rest
taken_back id x es rest e = ap (remove_entry (nat_eq id)) e ∙ ap (λ (b : Bool). cond b rest ((id, x) ∷ remove_entry (nat_eq id) rest)) (eq-eqb id id refl)

absent : (m : Map) (k : List ℕ) → false ≡ is_in k m → get m k ≡ None
absent m k e = go (get m k) e
  where
    go : (o : Option (List ℕ)) → false ≡ is_some o → o ≡ None
    go None e = refl
    go (Some v) e = cc

module _ {S V : Type 0} (s : Ghosts S) (R : Stores V S) where
  pub put_writes : (own : ℕ → Type 0) (c c' : Pages) (id : ℕ) (x : SharedPage) (key bytes : List ℕ) (v v' : V) (a b : S) → id < 2 ^ 64 → key ≡ key_of id → IsPage id bytes (page_of x) → IsValid nat_eq c → c' ≡ lru_cache (put_entries nat_eq c id x) c.cap
      → Puts s own (Holds s R) Over (value_in key) (put_in Over key bytes) v v' a b → Writes s own (Beside s R) (put_in Over (key_of id) bytes) (c, v) (c', v') a b
  put_writes own c c' id x key bytes v v' a b fits is page valid new p =
      let w : Writes s own (Holds s R) (put_in Over (key_of id) bytes) v v' a b = subst (λ (k : List ℕ). Writes s own (Holds s R) (put_in Over k bytes) v v' a b) is p.writes in
      record {
        sound = w.sound;
        means = λ m h. (w.means m h.0, subst (λ (j : Pages). AreSame (insert m (key_of id) bytes) j.entries) (sym new) (fronts_put m c id x bytes (put_entries nat_eq c id x) fits page (put_front c id x valid) h.1));
        others = w.others;
      }

  pub put_refused : (c k c' : Pages) (id : ℕ) (x : SharedPage) (v v' : V) (a b : S) → IsValid nat_eq c → k ≡ lru_cache (put_entries nat_eq c id x) c.cap → c' ≡ lru_cache (remove_entry (nat_eq id) k.entries) k.cap
      → Refuses s (Holds s R) v v' a b → Refuses s (Beside s R) (c, v) (c', v') a b
  put_refused c k c' id x v v' a b valid put out r = ⊎_elim (λ spoiled. inl spoiled) (λ (reads : Reads s (Holds s R) v v' a b). inr (record {
    now = reads.now;
    touched = reads.touched;
    sound = reads.sound;
    means = λ m h. (reads.means m h.0, subst (AreSame m) (sym left) (front.all (λ e. HasPage m e.0 (page_of e.1)) h.1));
  })) r
    where
      front : Fronts c id x (put_entries nat_eq c id x)
      front = put_front c id x valid

      left : c'.entries ≡ front.rest
      left = ap (λ (j : Pages). j.entries) out ∙ ap (λ (j : Pages). remove_entry (nat_eq id) j.entries) put ∙ taken_back id x (put_entries nat_eq c id x) front.rest front.is

  pub drop_writes : (own : ℕ → Type 0) (c c' : Pages) (id : ℕ) (key : List ℕ) (taken : Bool) (v v' : V) (a b : S) → id < 2 ^ 64 → key ≡ key_of id → IsValid nat_eq c → c' ≡ lru_cache (remove_entry (nat_eq id) c.entries) c.cap
      → TakesOut s own (Holds s R) (is_in key) (out_of key) taken v v' a b → Writes s own (Beside s R) (out_of (key_of id)) (c, v) (c', v') a b
  drop_writes own c c' id key taken v v' a b fits is valid new t = go taken (subst (λ (k : List ℕ). TakesOut s own (Holds s R) (is_in k) (out_of k) taken v v' a b) is t)
    where
      left : (m : Map) → AreSame m c.entries → AreSame (remove m (key_of id)) c'.entries
      left m h =
          subst (λ (j : Pages). AreSame (remove m (key_of id)) j.entries) (sym new)
          (others_same m (remove m (key_of id)) id (remove_entry (nat_eq id) c.entries) fits (λ k ne. remove_other m (key_of id) k ne) (removed_others id c.entries valid.0) (all_left (λ e. HasPage m e.0 (page_of e.1)) id c.entries h))

      go : (taken : Bool) → TakesOut s own (Holds s R) (is_in (key_of id)) (out_of (key_of id)) taken v v' a b → Writes s own (Beside s R) (out_of (key_of id)) (c, v) (c', v') a b
      go true t = let w = t.out refl in record { sound = w.sound; means = λ m h. (w.means m h.0, left m h.1); others = w.others }
      go false t =
          let r = t.none refl in
          record {
            sound = r.sound;
            means = λ m h. (subst (λ (n : Map). Holds s R v' b n) (sym (remove_none m (key_of id) (absent m (key_of id) (t.held m h.0)))) (r.means m h.0), left m h.1);
            others = record { same = λ told g other. r.now told g };
          }
