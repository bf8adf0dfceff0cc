-- What a file whose rules hold stands for, and what is held of it.
use Rattle.std.proofs.Common.{◌≡◌, ◌∙◌, ℕ, ◌≤◌, List, length, refl, sym, ap, subst}
use Rattle.std.specs.Prelude.{Result, Ok, Err}
use Rattle.std.specs.FinMap.{get, len}
use Rattle.tc_base.specs.Maps.{Map}
use Rattle.tc_base.specs.declared.kind.Rule.{Rule}
use Rattle.tc_space.specs.declared.errors.OpenErr.{OpenErr}
use Rattle.tc_space.specs.declared.errors.OpenErr.TheVariants as open_err
use Rattle.hf_head.specs.declared.head.Head.{Head}
use Rattle.hf_head.specs.declared.errors.HeadErr.{HeadErr}
use Rattle.hf_head.specs.Heads.{IsValid, unit}
use Rattle.hf_block.specs.declared.block.BlockAt.{BlockAt}
use Rattle.hf_block.specs.declared.walking.WalkErr.{WalkErr}
use Rattle.hf_block.specs.declared.walking.WalkErr.TheVariants as walk
use Rattle.hf_block.specs.Pieces.{AreBlocks, Piece, placed}
use Rattle.hf_block.specs.Rows.{HaveSameFree}
use Rattle.hf_block.specs.Walks.{between}
use Rattle.hf_layout.specs.Frees.{Frees, none}
use Rattle.hf_layout.specs.Layout.{record_at, frees_of, LaidOut}
use Rattle.hf_layout.proofs.Chains.{listed_have_width}
use Rattle.hf_pool.specs.declared.pool.Pool.{Pool}
use Rattle.hf_pool.specs.Pools.{frees as frees_in}
use Rattle.hf_tree.specs.Links.{HasBlocks, links_of, width}
use Rattle.hf_tree.specs.Rules.{rule_l}
use Rattle.hf_tree.specs.Standing.{IsMapOf, Opens, StandsFor}
use Rattle.hf_survey.specs.declared.surveying.Survey.{Survey}
use Rattle.hf_survey.specs.Facts.{AreFacts}
use Rattle.hf_survey.specs.Holding.{AllHold}
use Rattle.hf_survey.specs.Holding.{Breaks as Breaks_}
use Rattle.hf_survey.specs.Surveys.{IsSurvey, WasSurveyed}
use Rattle.hf_survey.proofs.Surveyed.{same_listed}
use Rattle.hf_record.specs.Holding.{IsHeld}
use Rattle.tc_hash.specs.Holding.{Holds}
use Rattle.tc_hash.specs.Opening.{Breaks, FillsUp, HasHead, IsBroken, IsNoList, IsRead, WasRead, bad_links, bad_section, broken_at, open_of}
use Rattle.tc_hash.specs.Sections.{IsListOf, section_of}
use Rattle.tc_hash.specs.Standing.{StandsWith}
use Rattle.tc_hash.proofs.Keyed.{frees_same, list_same, map_of, map_of_is, map_same, map_of-len, single}
use Rattle.tc_hash.proofs.Unique.{one_blocks}

-- where all rules hold the file stands for a map
pub read_stands : (kind : ℕ) (bytes : List ℕ) (h : Head) (ps : List Piece) (frees : Frees) → IsRead kind bytes h ps frees → (m : Map) × StandsWith kind bytes m h.opaque
read_stands kind bytes h ps frees is = (
  map_of ps,
  record {
    is = record {
      head = h;
      pieces = ps;
      opens = is.opens;
      names = is.hold.names;
      once = is.hold.once;
      home = is.hold.home;
      order = is.hold.order;
      count = is.hold.count;
      pool = list_same (unit h) frees (frees_of h.first ps) (section_of h bytes) (frees_same (unit h) h.first h.size ps frees bytes is.laid) is.list;
      is = map_of_is (unit h) h.first ps is.opens.blocks.filled.whole (single (links_of h ps bytes) h.first ps h.buckets is.hold.hang.0 is.hold.hang.1);
    };
    region_is = refl;
  },
)

-- and whatever map it stands for is held
pub read_holds : (kind : ℕ) (bytes : List ℕ) (h : Head) (ps : List Piece) (frees : Frees) (m : Map) → IsRead kind bytes h ps frees → StandsFor kind bytes (get m) → Holds h h.size frees h.records m bytes
read_holds kind bytes h ps frees m is stands =
    let heads : stands.head ≡ h = sym stands.opens.spells.fields ∙ is.opens.spells.fields in
    let theirs : HasBlocks h h.size stands.pieces bytes = subst (λ (x : Head). HasBlocks x x.size stands.pieces bytes) heads stands.opens.blocks in
    let same : stands.pieces ≡ ps = one_blocks h h.size stands.pieces ps bytes theirs is.opens.blocks in
    let map : IsMapOf (record_at h.first ps) (get m) = subst (λ (qs : List Piece). IsMapOf (record_at h.first qs) (get m)) same (subst (λ (x : Head). IsMapOf (record_at x.first stands.pieces) (get m)) heads stands.is) in
    let all : IsHeld h h.size ps frees is.hold.hang.0 m bytes = record { laid = is.laid; widths = is.opens.blocks.widths; hang = is.hold.hang.1; map = map } in
    let one = single (links_of h ps bytes) h.first ps h.buckets is.hold.hang.0 is.hold.hang.1 in
    record {
      has = record { pieces = ps; places = is.hold.hang.0; is = all; short = is.opens.valid.numbers.size_most };
      count = is.hold.count ∙ sym (map_of-len (unit h) h.first ps is.laid.filled.whole one) ∙ sym (ap len (map_same (unit h) h.first ps m is.laid.filled.whole one map));
    }

-- ---- what the parts of an opening answer

pub breaks_by : (tells : Type 0) (kind file n : ℕ) (bytes : List ℕ) (e : OpenErr) → e ≡ broken_at file n → (tells → IsBroken kind bytes (rule_l n)) → Breaks tells kind file bytes e
breaks_by tells kind file n bytes e is why f rule named =
    let s : broken_at file n ≡ open_err.Broken f rule = sym is ∙ named in
    let a : file ≡ f = cc in
    let b : rule_l n ≡ rule = cc in
    (sym a, λ t. subst (λ (r : Rule). IsBroken kind bytes r) b (why t))

pub breaks_fault : (tells : Type 0) (kind file : ℕ) (bytes : List ℕ) (e : OpenErr) → e ≡ open_err.Fault → Breaks tells kind file bytes e
breaks_fault tells kind file bytes e is f rule named = absurd (let s : open_err.Fault ≡ open_err.Broken f rule = sym is ∙ named in cc)

pub breaks_memory : (tells : Type 0) (kind file : ℕ) (bytes : List ℕ) (e : OpenErr) → e ≡ open_err.Memory → Breaks tells kind file bytes e
breaks_memory tells kind file bytes e is f rule named = absurd (let s : open_err.Memory ≡ open_err.Broken f rule = sym is ∙ named in cc)

pub breaks_walk : (tells : Type 0) (kind file : ℕ) (bytes : List ℕ) (w : WalkErr) (e : OpenErr) → e ≡ open_of file w → ((rule : Rule) → w ≡ walk.Broken rule → tells → IsBroken kind bytes rule) → Breaks tells kind file bytes e
breaks_walk tells kind file bytes (walk.Broken r) e is why = λ f rule named.
    let s : open_err.Broken file r ≡ open_err.Broken f rule = sym is ∙ named in
    let a : file ≡ f = cc in
    let b : r ≡ rule = cc in
    (sym a, λ t. subst (λ (x : Rule). IsBroken kind bytes x) b (why r refl t))
breaks_walk tells kind file bytes walk.Fault e is why = breaks_fault tells kind file bytes e is
breaks_walk tells kind file bytes walk.Memory e is why = breaks_memory tells kind file bytes e is

-- of the bytes before, where they are the same
pub breaks_before : (tells : Type 0) (kind file : ℕ) (old new : List ℕ) (e : OpenErr) → (tells → new ≡ old) → Breaks tells kind file new e → Breaks tells kind file old e
breaks_before tells kind file old new e same h f rule named = let b = h f rule named in (b.0, λ t. subst (λ (l : List ℕ). IsBroken kind l rule) (same t) (b.1 t))

pub fills_blocks : (h : Head) (ps : List Piece) (bytes : List ℕ) → FillsUp h bytes ps → h.first ≤ h.size → h.size ≤ length bytes → HasBlocks h h.size ps bytes
fills_blocks h ps bytes fills on within = record { on = on; within = within; filled = record { whole = fills.whole; is = fills.is }; widths = listed_have_width (width h) h.first ps fills.widths }

pub listed_opens : (kind : ℕ) (h : Head) (ps : List Piece) (bytes : List ℕ) → HasHead kind bytes h → HasBlocks h h.size ps bytes → Opens kind bytes h ps
listed_opens kind h ps bytes head blocks = record { long = head.long; valid = head.valid; spells = head.spells; kind_is = head.kind_is; blocks = blocks }

-- a rule of links that is broken
pub links_break : (tells : Type 0) (file : ℕ) (h : Head) (bytes : List ℕ) (s : Survey) (w : WalkErr) (e : OpenErr) → e ≡ open_of file w → IsValid h → (tells → HasHead h.kind bytes h) → (tells → WasSurveyed h bytes s)
    → ((rule : Rule) → w ≡ walk.Broken rule → tells → (ps : List Piece) → AreFacts h ps bytes s.facts → Breaks_ h ps bytes rule) → Breaks tells h.kind file bytes e
links_break tells file h bytes s w e is v head listed why = breaks_walk tells h.kind file bytes w e is (λ rule named t.
    let l = listed t in
    bad_links h l.pieces rule (listed_opens h.kind h l.pieces bytes (head t) l.is.facts.has) (why rule named t l.pieces l.is.facts))

-- all rules hold
pub all_read : (h : Head) (frees : Frees) (bytes : List ℕ) (s : Survey) → IsValid h → HasHead h.kind bytes h → WasSurveyed h bytes s → ((ps : List Piece) → AreFacts h ps bytes s.facts → AllHold h ps bytes)
    → ((ps : List Piece) → IsSurvey h ps bytes s → LaidOut (unit h) h.first h.size ps frees none bytes) → IsListOf (unit h) frees (section_of h bytes) → WasRead h.kind bytes h frees
all_read h frees bytes s v head listed hold laid list =
    (listed.pieces, record { opens = listed_opens h.kind h listed.pieces bytes head listed.is.facts.has; hold = hold listed.pieces listed.is.facts; laid = laid listed.pieces listed.is; list = list })

-- the section is no list
pub section_breaks : (tells : Type 0) (file : ℕ) (h : Head) (frees : Frees) (bytes : List ℕ) (s : Survey) (e : OpenErr) → e ≡ broken_at file 9 → IsValid h → (tells → HasHead h.kind bytes h) → (tells → WasSurveyed h bytes s)
    → (tells → (ps : List Piece) → AreFacts h ps bytes s.facts → AllHold h ps bytes) → (tells → (ps : List Piece) → IsSurvey h ps bytes s → LaidOut (unit h) h.first h.size ps frees none bytes)
    → (tells → IsListOf (unit h) frees (section_of h bytes) → ⊥) → Breaks tells h.kind file bytes e
section_breaks tells file h frees bytes s e is v head listed hold laid other = breaks_by tells h.kind file 9 bytes e is (λ t.
    let l = listed t in
    bad_section h l.pieces (listed_opens h.kind h l.pieces bytes (head t) l.is.facts.has) (hold t l.pieces l.is.facts)
    (λ list. other t (list_same (unit h) (frees_of h.first l.pieces) frees (section_of h bytes) (λ q. sym (frees_same (unit h) h.first h.size l.pieces frees bytes (laid t l.pieces l.is) q)) list)))

-- ---- a head

abbrev Answer : Type 0
Answer = Result Head HeadErr

pub no_head_read : (r : Answer) (e : HeadErr) (h : Head) → r ≡ Err e → r ≡ Ok h → ⊥
no_head_read r e h a b = let s : ◌≡◌ {A = Answer} (Err e) (Ok h) = sym a ∙ b in cc

pub same_head : (r : Answer) (g h : Head) → r ≡ Ok g → r ≡ Ok h → g ≡ h
same_head r g h a b = let s : ◌≡◌ {A = Answer} (Ok g) (Ok h) = sym a ∙ b in cc

-- an error by its value
pub err_is : {T : Type 0} (e : WalkErr) (rule : Rule) → e ≡ walk.Broken rule → ◌≡◌ {A = Result T WalkErr} (Err e) (Err (walk.Broken rule))
err_is {T} e rule named = ap (λ (x : WalkErr). Err x) named

-- no refusal but a broken rule names one
pub fault_no_list : (tells : Type 0) (file u : ℕ) (frees : Frees) (section : List ℕ) (e : OpenErr) → e ≡ open_err.Fault → IsNoList tells file u frees section e
fault_no_list tells file u frees section e is f rule named = absurd (let s : open_err.Fault ≡ open_err.Broken f rule = sym is ∙ named in cc)

pub memory_no_list : (tells : Type 0) (file u : ℕ) (frees : Frees) (section : List ℕ) (e : OpenErr) → e ≡ open_err.Memory → IsNoList tells file u frees section e
memory_no_list tells file u frees section e is f rule named = absurd (let s : open_err.Memory ≡ open_err.Broken f rule = sym is ∙ named in cc)

pub no_list_breaks : (tells : Type 0) (file : ℕ) (h : Head) (frees : Frees) (bytes : List ℕ) (s : Survey) (e : OpenErr) → IsNoList tells file (unit h) frees (section_of h bytes) e → IsValid h → (tells → HasHead h.kind bytes h) → (tells → WasSurveyed h bytes s)
    → (tells → (ps : List Piece) → AreFacts h ps bytes s.facts → AllHold h ps bytes) → (tells → (ps : List Piece) → IsSurvey h ps bytes s → LaidOut (unit h) h.first h.size ps frees none bytes) → Breaks tells h.kind file bytes e
no_list_breaks tells file h frees bytes s e is v head listed hold laid f rule named = let w = is f rule named in section_breaks tells file h frees bytes s e w.0 v head listed hold laid w.1 f rule named

-- the pool of the free blocks that were found
pub laid_surveyed : (h : Head) (u : ℕ) (frees : Frees) (bytes : List ℕ) (s : Survey) → u ≡ unit h → ((ps : List Piece) (bs : List ℕ) → h.size ≤ length bs → AreBlocks u (between h.first h.size bs) ps → HaveSameFree s.frees (placed h.first ps) → LaidOut u h.first h.size ps frees none bs) → (ps : List Piece) → IsSurvey h ps bytes s → LaidOut (unit h) h.first h.size ps frees none bytes
laid_surveyed h u frees bytes s same laid ps l =
    let has = l.facts.has in
    subst (λ (n : ℕ). LaidOut n h.first h.size ps frees none bytes) same (laid ps bytes has.within (subst (λ (n : ℕ). AreBlocks n (between h.first h.size bytes) ps) (sym same) has.filled) (subst (λ (bs : List BlockAt). HaveSameFree bs (placed h.first ps)) (sym l.frees) (same_listed h.first ps)))

-- of a head with that type
pub breaks_kind : (tells : Type 0) (k kind file : ℕ) (old new : List ℕ) (e : OpenErr) → k ≡ kind → (tells → new ≡ old) → Breaks tells k file new e → Breaks tells kind file old e
breaks_kind tells k kind file old new e same bytes h = breaks_before tells kind file old new e bytes (subst (λ (n : ℕ). Breaks tells n file new e) same h)

-- the same, where the blocks end so
pub holds_end : (h : Head) (p : Pool) (m : Map) (old new : List ℕ) → new ≡ old → p.size ≡ h.size → Holds h h.size (frees_in p) h.records m old → Holds h p.size (frees_in p) h.records m new
holds_end h p m old new e size b = subst (λ (x : List ℕ). Holds h p.size (frees_in p) h.records m x) (sym e) (subst (λ (n : ℕ). Holds h n (frees_in p) h.records m old) (sym size) b)
