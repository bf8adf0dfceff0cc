-- What a text command asks is within the limits of requests, whatever value its key has.
use Rattle.std.proofs.Common.{◌≡◌, ℕ, List, subst, sym}
use Rattle.std.specs.Prelude.{Option, Ok}
use Rattle.tc_base.specs.declared.request.Request.{Request}
use Rattle.ty_memc.specs.declared.text.Text.{Text}
use Rattle.ty_memc.specs.declared.text.Text.TheVariants.{Store, Get, Delete, Count, Flush, Version, Other}
use Rattle.ty_memc.specs.declared.text.Then.TheVariants.{Do}
use Rattle.ty_memc.specs.declared.text.Word.TheVariants.{Set, Add, Replace, Append}
use Rattle.ty_memc.specs.Answers.{then_by, then_of}
use Rattle.ty_memc.specs.Fitting.{ThenFits}
use Rattle.ty_memc.specs.Reading.{text_at}
use Rattle.ty_memc.proofs.Asking.{asked_fits}

by_value : (t : Text) (got : Option (List ℕ)) → ThenFits (then_by (λ _. got) t) → ThenFits (then_of t got)
by_value (Store Set key value quiet) got fits = fits
by_value (Store Add key value quiet) got fits = fits
by_value (Store Replace key value quiet) got fits = fits
by_value (Store Append key value quiet) got fits = fits
by_value (Get keys) got fits = tt
by_value (Delete key quiet) got fits = fits
by_value (Count key by down quiet) got fits = fits
by_value (Flush quiet) got fits = fits
by_value Version got fits = fits
by_value Other got fits = fits

pub asked_request_fits : (bytes : List ℕ) (t : Text) (rest : List ℕ) (got : Option (List ℕ)) (request : Request) (reply : List ℕ) → text_at bytes ≡ Ok (t, rest) → Do request reply ≡ then_of t got → ThenFits (Do request reply)
asked_request_fits bytes t rest got request reply read is = subst ThenFits (sym is) (by_value t got (asked_fits bytes t rest (λ _. got) read))
