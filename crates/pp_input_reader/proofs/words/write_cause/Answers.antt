use Rattle.pp_input_reader.proofs.words.write_cause.Goals as goal

pub returns-in-Missing : goal.returns-in-Missing
returns-in-Missing c = rw c.in-Missing.is c.write_with_member.ensures

pub returns-in-WrongType : goal.returns-in-WrongType
returns-in-WrongType c = rw c.in-WrongType.is c.write_with_member-in-WrongType.ensures

pub returns-in-OutOfRange : goal.returns-in-OutOfRange
returns-in-OutOfRange c = rw c.in-OutOfRange.is c.write_with_member-in-OutOfRange.ensures

pub returns-in-BadName : goal.returns-in-BadName
returns-in-BadName c = rw c.in-BadName.is c.write_with_member-in-BadName.ensures

pub returns-in-NotJson : goal.returns-in-NotJson
returns-in-NotJson c = rw c.in-NotJson.is c.append.ensures.ok

pub returns-in-NotObject : goal.returns-in-NotObject
returns-in-NotObject c = rw c.in-NotObject.is c.append-in-NotObject.ensures.ok

pub returns-in-UnknownStyle : goal.returns-in-UnknownStyle
returns-in-UnknownStyle c = rw c.in-UnknownStyle.is c.append-in-UnknownStyle.ensures.ok

pub returns-in-UnknownKind : goal.returns-in-UnknownKind
returns-in-UnknownKind c = rw c.in-UnknownKind.is c.append-in-UnknownKind.ensures.ok

pub returns-in-RepeatedObject : goal.returns-in-RepeatedObject
returns-in-RepeatedObject c = rw c.in-RepeatedObject.is c.append-in-RepeatedObject.ensures.ok

pub returns-in-TooManyObjects : goal.returns-in-TooManyObjects
returns-in-TooManyObjects c = rw c.in-TooManyObjects.is c.append-in-TooManyObjects.ensures.ok

pub returns-in-TooManyStart : goal.returns-in-TooManyStart
returns-in-TooManyStart c = rw c.in-TooManyStart.is c.append-in-TooManyStart.ensures.ok

pub returns-in-UnknownObject : goal.returns-in-UnknownObject
returns-in-UnknownObject c = rw c.in-UnknownObject.is c.append-in-UnknownObject.ensures.ok

pub returns-in-UnknownCall : goal.returns-in-UnknownCall
returns-in-UnknownCall c = rw c.in-UnknownCall.is c.append-in-UnknownCall.ensures.ok

pub returns-in-UnknownStep : goal.returns-in-UnknownStep
returns-in-UnknownStep c = rw c.in-UnknownStep.is c.append-in-UnknownStep.ensures.ok

pub returns-in-BodyBad : goal.returns-in-BodyBad
returns-in-BodyBad c = rw c.in-BodyBad.is c.append-in-BodyBad.ensures.ok

pub returns-in-BodyTooLarge : goal.returns-in-BodyTooLarge
returns-in-BodyTooLarge c = rw c.in-BodyTooLarge.is c.append-in-BodyTooLarge.ensures.ok

pub returns-in-LineTooLong : goal.returns-in-LineTooLong
returns-in-LineTooLong c = rw c.in-LineTooLong.is c.append-in-LineTooLong.ensures.ok

pub returns-in-TooManyLines : goal.returns-in-TooManyLines
returns-in-TooManyLines c = rw c.in-TooManyLines.is c.append-in-TooManyLines.ensures.ok

pub returns-in-TooLong : goal.returns-in-TooLong
returns-in-TooLong c = rw c.in-TooLong.is c.append-in-TooLong.ensures.ok

pub returns-in-NoHeader : goal.returns-in-NoHeader
returns-in-NoHeader c = rw c.in-NoHeader.is c.append-in-NoHeader.ensures.ok

pub returns-in-TooManyTransactions : goal.returns-in-TooManyTransactions
returns-in-TooManyTransactions c = rw c.in-TooManyTransactions.is c.append-in-TooManyTransactions.ensures.ok

pub returns-in-TooManySteps : goal.returns-in-TooManySteps
returns-in-TooManySteps c = rw c.in-TooManySteps.is c.append-in-TooManySteps.ensures.ok
