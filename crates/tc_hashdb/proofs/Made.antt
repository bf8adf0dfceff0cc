-- A file that is opened, or made anew.
use Rattle.std.proofs.Common.{◌≡◌, ◌∙◌, inl, inr, ⊎_elim, ℕ, ◌≤◌, false, List, [], length, take, refl, sym, ap, subst, arith}
use Rattle.std.specs.Prelude.{IfOk, OnOk, IfSome, Some, None, Result, Ok, Err}
use Rattle.std.specs.FinMap.{empty, get}
use Rattle.tc_base.specs.Files.{Files}
use Rattle.tc_base.specs.Maps.{Map}
use Rattle.tc_base.specs.declared.kind.Kind.{Kind}
use Rattle.tc_base.specs.declared.kind.Kind.TheVariants as kinds
use Rattle.tc_maps.specs.Sizes.{size_of}
use Rattle.tc_maps.proofs.Bytes.{size-empty}
use Rattle.tc_space.specs.declared.space.Space.{Ghosts}
use Rattle.ty_base.specs.Opening.{CanOpen, CreatesAs, DoStand, IsCreated, IsOpened, OpensFor, OpensTo, OpensUsable}
use Rattle.tc_space.specs.Stores.{Only}
use Rattle.ty_base.specs.Holding.{KeepsLayout, StaysLaid, StaysUsable, layout_refl}
use Rattle.ty_base.proofs.Refusals.{no_bytes}
use Rattle.hf_head.specs.declared.head.Head.{Head}
use Rattle.hf_head.specs.Heads.{head_in}
use Rattle.hf_tree.specs.Standing.{StandsFor}
use Rattle.tc_hash.specs.declared.hash.Hash.{Hash}
use Rattle.tc_hash.specs.Creating.{HasNoRoom, new_bytes}
use Rattle.tc_hash.specs.Keeping.{ShowsRegion, holds}
use Rattle.tc_hash.specs.Settling.{IsBrought}
use Rattle.tc_hash.specs.Standing.{StandsWith}
use Rattle.tc_model.specs.Contents.{Contents, hash}
use Rattle.tc_hashdb.specs.declared.holding.HashEngine.{HashEngine}
use Rattle.tc_hashdb.specs.Holding.{HoldsKeys, Reopens}
use Rattle.tc_hashdb.specs.Layouts.{layout_in, layout_of}
use Rattle.tc_hashdb.specs.Laying.{created_long, usual_layout}
use Rattle.tc_hashdb.specs.Shapes.{IsNewIn, Lacks, Shaped, anew, usual}
use Rattle.tc_hashdb.specs.declared.shape.HashShape.{HashShape}

abbrev nothing : Map
nothing = empty

pub made_opens : (kind : Kind) (files : Files) → kinds.Hash ≡ kind → length (files 0) ≡ 0 → OpensTo kind Reopens files (hash false empty)
made_opens kind files is none = record { kind_is = is; stand = inl (no_bytes (files 0) none, refl) }

-- an empty file stands for no data alone
only_none : (files : Files) (c : Contents) → length (files 0) ≡ 0 → Reopens files c → c ≡ hash false empty
only_none files c none stand = ⊎_elim (λ empty_file. empty_file.1) (λ main. absurd (let long : 256 ≤ length (files 0) = main.stands.opens.long in omega (arith, long, none))) stand

module _ {S : Type 0} (s : Ghosts S) where
  -- what was made is as the trait says it
  pub created_as : (e : HashEngine S) (shape : HashShape) (b : S) → e.hash.body.file ≡ 0 → IsNewIn shape e.hash.body.head → e.total ≡ Some 0 → IsBrought e.hash empty (s.now b 0) → holds e.hash (s.now b 0) empty → head_in (take 256 (s.now b 0)) ≡ e.hash.body.head → s.now b 0 ≡ new_bytes e.hash.body.head → IsCreated HoldsKeys Reopens Shaped e (anew shape) shape (s.now b)
  created_as e shape b file new total brought held head made =
      let stands : StandsFor 0 (s.now b 0) (get nothing) = subst (λ k. StandsFor k (s.now b 0) (get nothing)) new.kind_is brought.stands.is in
      record {
        holds = record { map = empty; is = refl; holds_map = record { file = file; kind = new.kind_is; holds_it = held; counted = subst (λ o. IfSome o (λ n. n ≡ size_of empty)) (sym total) (sym size-empty); region = ap (λ (g : Head). g.opaque) brought.head } };
        stand = inr (record { map = empty; is = refl; stands = stands });
        some = λ none. absurd (let long : 256 ≤ length (s.now b 0) = stands.opens.long in let short : length (s.now b 0) ≡ 0 = ap length none in omega (arith, long, short));
        numbers = record {
          numbers = subst (λ h. IsNewIn shape h) (sym head) new;
          long = created_long e.hash.body.head _ (s.now b 0) made brought.spells (sym brought.head ∙ head) stands.opens.long new.behind ∙ (sym new.size ∙ ap (λ (h : Head). h.size) (sym head));
        };
      }

  pub lacks_sections : (a b : S) (shape : HashShape) → s.limit b ≡ s.limit a → (h : Head) × IsNewIn shape h × HasNoRoom (s.limit a 0) (s.log_full b) h.first → Lacks s b shape
  lacks_sections a b shape same full = record { head = full.0; new = full.1; passes = subst (λ n. HasNoRoom n (s.log_full b) full.0.first) (sym (ap (λ f. f 0) same)) full.2 }

  -- an opening that made it
  pub made_opened : (e : HashEngine S) (kind : Kind) (a b : S) → length (s.now a 0) ≡ 0 → IsCreated HoldsKeys Reopens Shaped e (anew usual) usual (s.now b) → (c : Contents) → OpensTo kind Reopens (s.now a) c → IsOpened HoldsKeys Reopens e (s.now b) c
  made_opened e kind a b none created c opens = subst (λ d. IsOpened HoldsKeys Reopens e (s.now b) d) (sym (only_none (s.now a) c none opens.stand)) (record { holds = created.holds; stand = created.stand })

  -- an empty file stood for no data before it was made anew
  pub none_stood : (a : S) → (s.tells → s.now a 0 ≡ []) → DoStand s Reopens a
  none_stood a none = λ t. (hash false empty, inl (none t, refl))

  pub all_stand : {A E : Type 0} (r : Result A E) (kind : Kind) (a : S) → kinds.Hash ≡ kind → (s.tells → length (s.now a 0) ≡ 0) → OnOk r (CanOpen s Reopens kind a)
  all_stand (Ok x) kind a is none = λ t. (hash false empty, made_opens kind (s.now a) is (none t))
  all_stand (Err x) kind a is none = tt

  pub all_opened : {E : Type 0} (r : Result (HashEngine S) E) (kind : Kind) (a b : S) → (s.tells → length (s.now a 0) ≡ 0) → IfOk r (λ e. CreatesAs s Reopens HoldsKeys Shaped e (anew usual) usual b) → IfOk r (λ e. OpensFor s Reopens HoldsKeys kind e a b)
  all_opened (Ok e) kind a b none created = λ t. made_opened e kind a b (none t) (created t)
  all_opened (Err x) kind a b none created = tt

  pub made_usual : {E : Type 0} (r : Result (HashEngine S) E) (a b : S) → IfOk r (λ e. CreatesAs s Reopens HoldsKeys Shaped e (anew usual) usual b) → OnOk r (StaysUsable s (Only 0) a b) → OnOk r (OpensUsable s (Only 0) (Shaped usual) a b)
  made_usual (Ok e) a b created usable = record { sound = usable.sound; others = usable.others; made = λ t none. (created t).numbers }
  made_usual (Err x) a b created usable = tt

  -- what an opening made has the usual layout, and what it only read is as it was
  pub made_laid : {E : Type 0} (r : Result (HashEngine S) E) (a b : S) → (s.tells → length (s.now a 0) ≡ 0) → IfOk r (λ e. CreatesAs s Reopens HoldsKeys Shaped e (anew usual) usual b) → OnOk r (StaysLaid s layout_of a b)
  made_laid (Ok e) a b none created = λ t. subst (λ bytes. KeepsLayout (layout_in bytes) (layout_of (s.now b))) (sym (no_bytes (s.now a 0) (none t))) (usual_layout (s.now b) (created t).numbers)
  made_laid (Err x) a b none created = tt

  pub read_laid : (a b : S) → (s.tells → (g : ℕ) → s.now b g ≡ s.now a g) → StaysLaid s layout_of a b
  read_laid a b same t = subst (λ bytes. KeepsLayout (layout_of (s.now a)) (layout_in bytes)) (sym (same t 0)) (layout_refl (layout_of (s.now a)))

  pub main_opens : (h : Hash S) (kind : Kind) (a : S) → kinds.Hash ≡ kind → (m : Map) × StandsWith 0 (s.now a 0) m h.region → (c : Contents) × OpensTo kind Reopens (s.now a) c
  main_opens h kind a is stood = (hash false stood.0, record { kind_is = is; stand = inr (record { map = stood.0; is = refl; stands = stood.1.is }) })

  -- the region that was read stands in the head
  pub opened_shows : (h : Hash S) (a b : S) → s.now b 0 ≡ s.now a 0 → (m : Map) × StandsWith 0 (s.now a 0) m h.region → ShowsRegion h (s.now b 0)
  opened_shows h a b same stood = ap (λ (l : List ℕ). (head_in (take 256 l)).opaque) same ∙ (ap (λ (g : Head). g.opaque) stood.1.is.opens.spells.fields ∙ stood.1.region_is)

  pub main_opened : (e : HashEngine S) (kind : Kind) (a b : S) → (length (s.now a 0) ≡ 0 → ⊥) → s.now b 0 ≡ s.now a 0 → e.hash.body.file ≡ 0 → e.hash.body.head.kind ≡ 0 → e.total ≡ None → ((m : Map) → StandsFor 0 (s.now a 0) (get m) → holds e.hash (s.now b 0) m) → ShowsRegion e.hash (s.now b 0) → (c : Contents) → OpensTo kind Reopens (s.now a) c → IsOpened HoldsKeys Reopens e (s.now b) c
  main_opened e kind a b some same file kind_is total opened shows c opens = ⊎_elim
      (λ none. absurd (some (ap length none.0)))
      (λ main. record {
        holds = record { map = main.map; is = main.is; holds_map = record { file = file; kind = kind_is; holds_it = opened main.map main.stands; counted = subst (λ o. IfSome o (λ n. n ≡ size_of main.map)) (sym total) tt; region = shows } };
        stand = inr (record { map = main.map; is = main.is; stands = subst (λ bytes. StandsFor 0 bytes (get main.map)) (sym same) main.stands });
      })
      opens.stand
