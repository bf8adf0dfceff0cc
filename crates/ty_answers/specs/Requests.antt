-- The effects of requests, each as a function of contents.
use Rattle.std.specs.Prelude.{ℕ, ℤ, List, Some, option_map, option_and_then, flat_map}
use Rattle.tc_base.specs.declared.request.Reply.TheVariants as reply
use Rattle.tc_model.specs.Apply.{at_most, keys_from, length_reply}
use Rattle.tc_model.specs.Stores.{held, first_pair, count, size_of, shift, add}
use Rattle.tc_model.specs.Stats.{stat_text}
use Rattle.ty_answers.specs.Answers.{Request, changed_by, told_by}

abbrev pub got : List ℕ → Request
got key = told_by (λ c. option_map (λ value. reply.Value value) (held c key))

abbrev pub got_len : List ℕ → Request
got_len key = told_by (λ c. option_and_then length_reply (held c key))

abbrev pub got_all : List (List ℕ) → Request
got_all keys = told_by (λ c. Some (reply.Pairs (flat_map (first_pair c) keys)))

abbrev pub shifted : List ℕ → List ℕ → ℕ → Request
shifted key value width = changed_by reply.Done (λ c. shift c key value width)

abbrev pub added : List ℕ → ℕ → Request
added key number c = option_map (λ sum. (sum.1, reply.Four sum.0)) (add c key number)

abbrev pub got_keys : List ℕ → ℤ → Request
got_keys prefix maximum = told_by (λ c. Some (reply.List (at_most maximum (keys_from c prefix))))

abbrev pub counted_keys : Request
counted_keys = told_by (λ c. Some (reply.Eight (count c)))

abbrev pub sized : Request
sized = told_by (λ c. Some (reply.Eight (size_of c)))

abbrev pub lines_told : Request
lines_told = told_by (λ c. Some (reply.Value (stat_text c)))
