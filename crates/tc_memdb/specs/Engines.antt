-- What an engine in memory holds.
use Rattle.tc_model.specs.Contents.{Contents}
use Rattle.tc_memdb.specs.Holding.{contents_of}
use Rattle.tc_memdb.specs.declared.engine.MemEngine.{MemEngine}

abbrev pub contents_in : MemEngine → Contents
contents_in e = contents_of e.held
