use Rattle.std.specs.Prelude.{Some, None, IfOk}
use Rattle.std.proofs.Common.{sym, subst}
use Rattle.btr_hist.specs.declared.entry.Entry.{Entry}
use Rattle.btr_streams.specs.Stage.{HasRoomFor, ReadsOn, AddsStream, SetsEarliest}
use Rattle.btr_streams.proofs.board.Board.read_board.Goals as goal

pub with_stream-requires-clause-room : goal.with_stream-requires-clause-room
with_stream-requires-clause-room c = (subst (HasRoomFor c.args.self.now) c.in-Create.is c.requires.room).few

pub with_stream-requires-clause-fresh : goal.with_stream-requires-clause-fresh
with_stream-requires-clause-fresh c = (subst (HasRoomFor c.args.self.now) c.in-Create.is c.requires.room).fresh

pub with_stream-requires-clause-good : goal.with_stream-requires-clause-good
with_stream-requires-clause-good c = (subst (HasRoomFor c.args.self.now) c.in-Create.is c.requires.room).good

pub with_stream-requires-in-Define-clause-good : goal.with_stream-requires-in-Define-clause-good
with_stream-requires-in-Define-clause-good c = (subst (HasRoomFor c.args.self.now) c.in-Define.is c.requires.room).good

pub with_stream-requires-in-Define-clause-room : goal.with_stream-requires-in-Define-clause-room
with_stream-requires-in-Define-clause-room c = (subst (HasRoomFor c.args.self.now) c.in-Define.is c.requires.room).few

pub with_stream-requires-in-Define-clause-fresh : goal.with_stream-requires-in-Define-clause-fresh
with_stream-requires-in-Define-clause-fresh c = (subst (HasRoomFor c.args.self.now) c.in-Define.is c.requires.room).fresh

pub read_version-requires-clause-room : goal.read_version-requires-clause-room
read_version-requires-clause-room c = subst (HasRoomFor c.args.self.now) c.in-Commit.is c.requires.room

pub read_version-requires-in-Distillate-clause-room : goal.read_version-requires-in-Distillate-clause-room
read_version-requires-in-Distillate-clause-room c = subst (HasRoomFor c.args.self.now) c.in-Distillate.is c.requires.room

pub returns-in_ok-with_stream-in-Create-clause-kept : goal.returns-in_ok-with_stream-in-Create-clause-kept
returns-in_ok-with_stream-in-Create-clause-kept c =
    let made = c.without_nodes in
    subst (λ (e : Entry). ReadsOn c.args.self.now e c.args.tree made.result.board made.result.nodes.items made.result.root) (sym c.in-Create.is) (record {
      adds = subst (AddsStream c.args.self.now c.in-Create.id None) (sym made.ensures.board) c.in_ok-with_stream-in-Create.ensures.adds;
      none = made.ensures.nodes;
      no_root = made.ensures.root;
    })

pub returns-in_ok-with_stream-in-Define-clause-kept : goal.returns-in_ok-with_stream-in-Define-clause-kept
returns-in_ok-with_stream-in-Define-clause-kept c =
    let made = c.without_nodes-in-Define in
    subst (λ (e : Entry). ReadsOn c.args.self.now e c.args.tree made.result.board made.result.nodes.items made.result.root) (sym c.in-Define.is) (record {
      adds = subst (AddsStream c.args.self.now c.in-Define.id (Some c.in-Define.spec)) (sym made.ensures.board) c.in_ok-with_stream-in-Define.ensures.adds;
      none = made.ensures.nodes;
      no_root = made.ensures.root;
    })

pub returns-in-Commit-clause-kept : goal.returns-in-Commit-clause-kept
returns-in-Commit-clause-kept c =
    subst (λ (e : Entry). IfOk c.read_version.result (λ n. ReadsOn c.args.self.now e c.args.tree n.board n.nodes.items n.root)) (sym c.in-Commit.is) c.read_version.ensures.kept

pub returns-in-Distillate-clause-kept : goal.returns-in-Distillate-clause-kept
returns-in-Distillate-clause-kept c =
    subst (λ (e : Entry). IfOk c.read_version-in-Distillate.result (λ n. ReadsOn c.args.self.now e c.args.tree n.board n.nodes.items n.root)) (sym c.in-Distillate.is) c.read_version-in-Distillate.ensures.kept

pub returns-in_ok-with_earliest-in-Retire-clause-kept : goal.returns-in_ok-with_earliest-in-Retire-clause-kept
returns-in_ok-with_earliest-in-Retire-clause-kept c =
    let made = c.without_nodes-in-Retire in
    subst (λ (e : Entry). ReadsOn c.args.self.now e c.args.tree made.result.board made.result.nodes.items made.result.root) (sym c.in-Retire.is) (record {
      sets = subst (SetsEarliest c.args.self.now c.in-Retire.stream c.in-Retire.first) (sym made.ensures.board) c.in_ok-with_earliest-in-Retire.ensures.sets;
      none = made.ensures.nodes;
      no_root = made.ensures.root;
    })

pub with_stream-requires-clause-inputs : goal.with_stream-requires-clause-inputs
with_stream-requires-clause-inputs c = (subst (HasRoomFor c.args.self.now) c.in-Create.is c.requires.room).inputs

pub with_stream-requires-in-Define-clause-inputs : goal.with_stream-requires-in-Define-clause-inputs
with_stream-requires-in-Define-clause-inputs c = (subst (HasRoomFor c.args.self.now) c.in-Define.is c.requires.room).inputs
