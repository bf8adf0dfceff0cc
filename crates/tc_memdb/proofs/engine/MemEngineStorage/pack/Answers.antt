use Rattle.tc_memdb.proofs.engine.MemEngineStorage.pack.Goals as goal

-- it has nothing to pack
pub returns-clause-tight : goal.returns-clause-tight
returns-clause-tight c = λ d h. tt
