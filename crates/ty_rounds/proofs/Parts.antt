-- Both parts of a round.
use Rattle.std.proofs.Common.{◌≡◌, ◌∙◌, ℕ, Bool, true, false, List, [], ◌∷◌, refl, sym, subst}
use Rattle.std.specs.Prelude.{◌||◌, Option, Some, None}
use Rattle.tc_base.specs.Files.{Files}
use Rattle.tc_space.specs.declared.space.Space.{Ghosts}
use Rattle.tc_model.specs.Contents.{Contents, Walk}
use Rattle.ty_base.specs.Holding.{Held, Layout, OfHeld}
use Rattle.ty_ulog.specs.declared.record.Record.{Record}
use Rattle.ty_world.specs.Clients.{Client}
use Rattle.ty_world.specs.Rounds.{has_any, round_all}
use Rattle.ty_rounds.specs.Books.{Book, settings_of}
use Rattle.ty_rounds.specs.Holding.{AllHold, AllMid}
use Rattle.ty_rounds.specs.Linking.{DealsAll, Looks, SameRound, looked_by}
use Rattle.ty_rounds.specs.Serving.{FillsPart, FillsTaken, Rounds, ServesAll, of_link, part_less}
use Rattle.ty_rounds.specs.Works.{Work, gaps_of, listed}
use Rattle.ty_rounds.specs.declared.batch.Gap.{Gap}
use Rattle.ty_rounds.specs.declared.logging.Logged.{Logged}
use Rattle.ty_rounds.specs.declared.peer.Peer.{Peer}
use Rattle.ty_rounds.proofs.ServingLaws.{leaves_then, or_false}

pub none_listed : {A : Type 0} (t : Option A) → listed t ≡ [] → t ≡ None
none_listed None e = refl
none_listed (Some x) e = absurd cc

pub none_met : (t : Option Gap) → gaps_of t ≡ [] → t ≡ None
none_met None e = refl
none_met (Some x) e = absurd cc

or_true : (a : Bool) → (a || true) ≡ true
or_true true = refl
or_true false = refl

-- there is something to commit where there was, or a record was taken
commits_then : (o o' : Work) → o.taken ≡ [] → SameRound o o' → o'.commits ≡ (o.commits || has_any o'.taken)
commits_then o o' none same = go o'.taken refl
  where
    taken_some : (r : Record) (rs : List Record) (b : Bool) → o'.taken ≡ r ∷ rs → o'.commits ≡ b → b ≡ true
    taken_some r rs true is e = refl
    taken_some r rs false is e = absurd (let f = sym is ∙ (same.taken_so e).1 ∙ none in cc)

    go : (rs : List Record) → o'.taken ≡ rs → o'.commits ≡ (o.commits || has_any rs)
    go [] is = same.commits_is none is ∙ sym (or_false o.commits)
    go (r ∷ rs) is = taken_some r rs o'.commits is refl ∙ sym (or_true o.commits)

module _ {S B : Type 0} (s : Ghosts S) (own : ℕ → Type 0) (layout : Files → Layout) (holds : B → Files → Contents → Type 0) where
  pub round_done : (l : Option Logged) (o o' : Work) (b0 b1 b2 : B) (a0 a1 a2 : S) (w0 w1 w2 : Walk) (ps0 ps1 ps2 : List Peer) → ServesAll s own layout holds l o b0 b1 a0 a1 w0 w1 ps0 ps1 → Looks s own layout holds l o o' b1 b2 a1 a2 w1 w2 ps1 ps2 → Rounds s own layout holds l o' b0 b2 a0 a2 w0 w2 ps0 ps2
  round_done l o o' b0 b1 b2 a0 a1 a2 w0 w1 w2 ps0 ps1 ps2 serves looks = record {
    served = record {
      numbers = looks.numbers ∙ serves.served.numbers;
      unread = λ h. looks.unread (serves.served.unread h);
      waiting = λ h. looks.waiting (serves.served.waiting h);
      calm = looks.calm serves.served.calm;
      links = λ know. looks.links (serves.served.links know);
      fit = λ know. looks.fit (serves.served.links know) (serves.served.fit know);
      ready = looks.ready;
      leaves = leaves_then s own layout o.commits o'.commits a0 a1 a2 (λ e. (looks.same.taken_so e).0) serves.served.leaves looks.leaves;
    };
    introduced = λ know. looks.introduced (serves.served.links know);
    each = λ c h b ks is hold.
        let r = serves.each c h b ks is hold in
        let m = round_all b.is c w0 ks in
        let x = subst (λ (w : Walk). DealsAll b o' (Held s holds b2 a2) w2 ps2 (looked_by b m.made.contents w m.clients)) r.walk_is (looks.each m.made.contents r.contents b m.clients is r.each) in
        record {
          commits_is = commits_then o o' serves.link.0 looks.same ∙ (λ i. r.commits_is i || has_any (x.taken_is i));
          updates_is = λ logs. looks.same.updates_is ∙ r.updates_is logs;
          labels_is = looks.same.labels_is ∙ r.labels_is;
          taken_is = x.taken_is;
          gap_is = x.gap_is;
          contents = x.contents;
          walk_is = x.walk_is;
          each = x.each;
        };
  }

  -- a limit in the link's part is one of the round
  pub link_full : (fills wide : Contents → Contents → Type 0) (l : Option Logged) (o : Work) (b0 b1 : B) (a0 a1 : S) (w0 w1 : Walk) (ps0 ps1 : List Peer) → ServesAll s own layout holds l o b0 b1 a0 a1 w0 w1 ps0 ps1 → (s.tells → (i j : Contents) → fills i j → wide i j)
      → OfHeld s holds b1 a1 (λ c. (b : Book) (ks : List Client) → b.is ≡ settings_of l → AllMid b ps1 ks → FillsTaken b.is b.records fills c w1 ks)
      → OfHeld s holds b0 a0 (λ c. (b : Book) (ks : List Client) → b.is ≡ settings_of l → AllHold b ps0 ks → FillsPart b.is b.records wide c w0 ks)
  link_full fills wide l o b0 b1 a0 a1 w0 w1 ps0 ps1 serves wider full c h b ks is hold =
      let r = serves.each c h b ks is hold in
      let m = round_all b.is c w0 ks in
      part_less b.is fills wide (wider h.0) b.records c w0 ks (of_link (subst (λ (w : Walk). FillsTaken b.is b.records fills m.made.contents w m.clients) r.walk_is (full m.made.contents r.contents b m.clients is r.each)))
