-- What a database that opens files says of itself.
use Rattle.std.specs.Prelude.{ℕ, List}
use Rattle.tc_base.specs.Files.{Files}
use Rattle.tc_base.specs.declared.kind.Form.{Form}
use Rattle.tc_base.specs.declared.kind.Kind.{Kind}
use Rattle.tc_base.specs.declared.kind.Rule.{Rule}
use Rattle.tc_model.specs.Contents.{Contents}
use Rattle.ty_base.specs.Holding.{Layout}
use Rattle.ty_base.specs.declared.opens.Opens as opening
use Rattle.ty_base.specs.declared.storage.Storage as storage

-- what it says as one that keeps contents, and as one that opens files
abbrev pub Says : Type 0 → Type 0 → Type 0 → Type 1
Says B N S = record {
  holds : B → Files → Contents → Type 0;
  reopens : Files → Contents → Type 0;
  own : ℕ → Type 0;
  fills : B → S → S → Contents → Contents → Type 0;
  fills_since : S → S → Contents → Contents → Type 0;
  lacks_large : S → S → Contents → Type 0;
  lines : Files → List ℕ → Type 0;
  tight : B → Files → Form → Files → Type 0;
  packed : Files → Form → Files → Type 0;
  layout : Files → Layout;
  may_be : N → Type 0;
  anew : N → Contents;
  shaped : N → Files → Type 0;
  usual : N;
  lacks : S → N → Type 0;
  breaks : Kind → Files → ℕ → Rule → Type 0;
  breaks_new : Files → ℕ → Rule → Type 0;
}

abbrev pub saying : {B N S : Type 0} → storage.Ghosts B S → opening.Ghosts B N S → Says B N S
saying st op = record {
  holds = st.holds;
  reopens = st.reopens;
  own = st.own;
  fills = st.fills;
  fills_since = st.fills_since;
  lacks_large = st.lacks_large;
  lines = st.lines;
  tight = st.tight;
  packed = st.packed;
  layout = st.layout;
  may_be = op.may_be;
  anew = op.anew;
  shaped = op.shaped;
  usual = op.usual;
  lacks = op.lacks;
  breaks = op.breaks;
  breaks_new = op.breaks_new;
}
