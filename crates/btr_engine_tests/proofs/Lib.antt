mod EngineSend
