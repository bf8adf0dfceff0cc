-- What is found of all trees of a file's buckets, some of them after the others.
use Rattle.std.proofs.Common.{◌≡◌, ◌∙◌, ℕ, ◌+◌, ◌*◌, ◌<◌, ◌≤◌, List, [], ◌++◌, length, refl, sym, ap, subst, arith, Some, Bool, true, false, replicate}
use Rattle.std.proofs.lemmas.List.{append-nil}
use Rattle.std.specs.Prelude.{slice_get}
use Rattle.hf_head.specs.declared.head.Head.{Head}
use Rattle.hf_head.specs.Heads.{IsValid}
use Rattle.hf_block.specs.Pieces.{Piece}
use Rattle.hf_layout.specs.Layout.{record_at}
use Rattle.hf_tree.specs.Links.{links_of}
use Rattle.hf_survey.specs.declared.facts.Fact.{Fact}
use Rattle.hf_survey.specs.declared.reaching.Item.{Item}
use Rattle.hf_survey.specs.declared.judging.Verdict.{Verdict}
use Rattle.hf_survey.specs.declared.judging.Verdict.TheVariants.{InOrder}
use Rattle.hf_survey.specs.Batches.{AreMarked, TreesOn, TreesStop}
use Rattle.hf_survey.specs.Entries.{AreEntries}
use Rattle.hf_survey.specs.Facts.{AreFacts}
use Rattle.hf_survey.specs.Orders.{Judged}
use Rattle.hf_survey.specs.Reaching.{AreLow, IsNotOnce, Marked, seen, all_seen}
use Rattle.hf_survey.specs.Trees.{WereFollowed, WereJudged}
use Rattle.hf_survey.proofs.Findings.{judged_none}
use Rattle.hf_survey.proofs.Followed.{all_named, reach_start}
use Rattle.hf_survey.proofs.Lists.{map_long}
use Rattle.hf_survey.proofs.Named.{bare, are_read}
use Rattle.hf_survey.proofs.Rows.{are_roots}
use Rattle.hf_survey.proofs.Steps.{not_whole, unmarked, whole_reach}

module _ (tells : Type 0) (h : Head) (v : IsValid h) (bytes : List ℕ) (facts : List Fact) where
  pub followed_none : (marks : List Bool) → marks ≡ replicate (length facts) false → WereFollowed tells h bytes facts 0 marks InOrder
  followed_none marks unset = record {
    items = [];
    marked = unmarked [] marks (length facts) refl unset;
    judged = judged_none tells facts bytes;
    reached = λ t ps a. reach_start (links_of h ps bytes) (record_at h.first ps) h.buckets;
  }

  module _ (first : ℕ) (was : List Bool) (verdict : Verdict) (w : WereFollowed tells h bytes facts first was verdict) where
    -- all that was reached before
    pub marked_before : (items : List Item) → items ≡ [] → AreMarked items was
    marked_before items none = record { before = w.items; is = subst (λ (l : List Item). Marked l was) (sym (append-nil w.items) ∙ ap (λ (l : List Item). w.items ++ l) (sym none)) w.marked }

    module _ (places : List ℕ) (low : first + length places ≤ h.buckets) (entries : tells → AreEntries h first places bytes) where
      pub followed_more : (items : List Item) (now : List Bool) (found : Verdict) → TreesOn facts first places was items now
          → ((others : List Item) → Judged tells facts others (length others) bytes verdict → Judged tells facts (others ++ items) (length (others ++ items)) bytes found) → WereFollowed tells h bytes facts (first + length places) now found
      followed_more items now found trees judged = record {
        items = w.items ++ items;
        marked = trees.marked w.items w.marked;
        judged = judged w.items w.judged;
        reached = λ t ps a. trees.reached w.items (links_of h ps bytes) (record_at h.first ps) h.buckets w.marked (are_read h ps bytes facts v a) (are_roots h ps bytes facts v a first places low (entries t)) (w.reached t ps a);
      }

      pub followed_stop : TreesStop facts first places was → tells → (ps : List Piece) → AreFacts h ps bytes facts → IsNotOnce (links_of h ps bytes) (record_at h.first ps) h.buckets
      followed_stop s t ps a = s.is w.items (links_of h ps bytes) (record_at h.first ps) h.buckets w.marked (are_read h ps bytes facts v a) (are_roots h ps bytes facts v a first places low (entries t)) (w.reached t ps a)

  -- ---- where all trees were followed

  module _ (marks : List Bool) (verdict : Verdict) (long : length marks ≡ length facts) (w : WereFollowed tells h bytes facts h.buckets marks verdict) where
    all_done : 2 * length (all_seen facts w.items) ≤ 2 * length w.items
    all_done = omega (arith, map_long (seen facts) w.items)

    pub judged_all : ((i : ℕ) → i < length marks → slice_get marks i ≡ Some true) → WereJudged tells h bytes facts verdict
    judged_all all = record {
      items = w.items;
      low = subst (λ z. AreLow z w.items) long w.marked.low;
      judged = w.judged;
      all = λ t ps a.
          let whole = whole_reach (links_of h ps bytes) (record_at h.first ps) h.buckets facts (are_read h ps bytes facts v a) w.items marks long w.marked all in
          record {
            names = all_named (links_of h ps bytes) (record_at h.first ps) h.buckets (all_seen facts w.items) (2 * length w.items) (w.reached t ps a) all_done whole;
            whole = record { is = record { done = 2 * length w.items; all = all_done; is = w.reached t ps a }; whole = whole };
          };
    }

    pub not_all : (i : ℕ) → i < length marks → slice_get marks i ≡ Some false → tells → (ps : List Piece) → AreFacts h ps bytes facts → IsNotOnce (links_of h ps bytes) (record_at h.first ps) h.buckets
    not_all i low out t ps a names once = not_whole (links_of h ps bytes) (record_at h.first ps) h.buckets facts (are_read h ps bytes facts v a) w.items marks i (bare h ps bytes facts v a) long w.marked
        (record { done = 2 * length w.items; all = all_done; is = w.reached t ps a }) low out once
