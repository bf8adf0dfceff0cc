-- What is done with the rows found, in its two parts.
use Rattle.std.proofs.Common.{◌≡◌, ℕ, List}
use Rattle.tc_model.specs.Contents.{Indexes, Rows, table}
use Rattle.tc_model.specs.Meaning.{done_with}
use Rattle.tc_model.specs.Search.{Found}
use Rattle.tc_model.specs.declared.query.Deed.{Deed}
use Rattle.tc_model.specs.declared.query.Deed.TheVariants as deed
use Rattle.tc_plain.specs.Bodies.{items_of, rows_left}

pub done_parts : (d : Deed) (rows : Rows) (indexes : Indexes) (fs : List Found) (left : Rows) (items : List (List ℕ)) → left ≡ rows_left d rows fs → items ≡ items_of d fs → (table left indexes, items) ≡ done_with d rows indexes fs
done_parts deed.Keys rows indexes fs left items l e = λ i. (table (l i) indexes, e i)
done_parts deed.Get rows indexes fs left items l e = λ i. (table (l i) indexes, e i)
done_parts deed.Out rows indexes fs left items l e = λ i. (table (l i) indexes, e i)
done_parts deed.Count rows indexes fs left items l e = λ i. (table (l i) indexes, e i)
