-- A request that was read, without where its texts lie.
use Rattle.std.specs.Prelude.{◌≡◌, ◌*◌, ◌≤◌, ℕ, true, is_ok, List}
use Rattle.tc_base.specs.declared.request.Request.{Request}
use Rattle.tc_base.specs.declared.request.Request.TheVariants as request
use Rattle.ty_wire.specs.declared.parsed.Items.{Items}
use Rattle.ty_wire.specs.declared.parsed.Stores.{Stores}
use Rattle.ty_wire.specs.declared.parsed.Stores.TheVariants.{Put, PutKeep, PutCat, PutShl, PutNr}
use Rattle.ty_wire.specs.declared.parsed.Keyed.{Keyed}
use Rattle.ty_wire.specs.declared.parsed.Keyed.TheVariants.{Out, Get, Vsiz, FwmKeys, AddInt, AddDouble}
use Rattle.ty_wire.specs.declared.parsed.Texted.{Texted}
use Rattle.ty_wire.specs.declared.parsed.Texted.TheVariants.{Optimize, Copy, Restore, SetMst}
use Rattle.ty_wire.specs.declared.parsed.Bare.{Bare}
use Rattle.ty_wire.specs.declared.parsed.Bare.TheVariants.{IterInit, IterNext, Sync, Vanish, Rnum, Size, Stat, Repl}
use Rattle.ty_wire.specs.declared.parsed.Parsed.{Parsed}
use Rattle.ty_wire.specs.declared.parsed.Parsed.TheVariants as has
use Rattle.ty_wire.specs.Reading.{items_at}
use Rattle.ty_wire.specs.Items.{texts_of}

abbrev pub texts : Items → List (List ℕ)
texts it = texts_of (items_at it.most it.count it.left it.bytes.now)

abbrev pub storing : Stores → List ℕ → List ℕ → Request
storing Put key value = request.Put key value
storing PutKeep key value = request.PutKeep key value
storing PutCat key value = request.PutCat key value
storing (PutShl width) key value = request.PutShl key value width
storing PutNr key value = request.PutNr key value

abbrev pub of_key : Keyed → List ℕ → Request
of_key Out key = request.Out key
of_key Get key = request.Get key
of_key Vsiz key = request.Vsiz key
of_key (FwmKeys maximum) key = request.FwmKeys key maximum
of_key (AddInt number) key = request.AddInt key number
of_key (AddDouble integer fraction) key = request.AddDouble key integer fraction

abbrev pub of_text : Texted → List ℕ → Request
of_text Optimize text = request.Optimize text
of_text Copy text = request.Copy text
of_text (Restore timestamp options) text = request.Restore text timestamp options
of_text (SetMst port timestamp options) text = request.SetMst text port timestamp options

abbrev pub of_numbers : Bare → Request
of_numbers IterInit = request.IterInit
of_numbers IterNext = request.IterNext
of_numbers Sync = request.Sync
of_numbers Vanish = request.Vanish
of_numbers Rnum = request.Rnum
of_numbers Size = request.Size
of_numbers Stat = request.Stat
of_numbers (Repl timestamp server) = request.Repl timestamp server

abbrev pub parsed : Parsed → Request
parsed (has.Stores s key value) = storing s key.now value.now
parsed (has.Keyed k key) = of_key k key.now
parsed (has.Texted t text) = of_text t text.now
parsed (has.Bare b) = of_numbers b
parsed (has.MGet it) = request.MGet (texts it)
parsed (has.Ext name options key value) = request.Ext name.now options key.now value.now
parsed (has.Misc name options it) = request.Misc name.now options (texts it)

-- its texts are all there
abbrev pub AreWhole : Items → Type 0
AreWhole it = (4 * it.count ≤ it.left) × (is_ok (items_at it.most it.count it.left it.bytes.now) ≡ true)

abbrev pub IsWhole : Parsed → Type 0
IsWhole (has.MGet it) = AreWhole it
IsWhole (has.Misc name options it) = AreWhole it
IsWhole _ = Unit {0}
