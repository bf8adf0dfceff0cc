use Rattle.tc_fixeddb.proofs.engine.FixedEngineStorage.pack.Goals as goal

-- it has nothing to pack
pub returns-clause-tight : goal.returns-clause-tight
returns-clause-tight g c = λ d h. tt
